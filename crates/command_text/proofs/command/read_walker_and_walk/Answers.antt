use Rattle.std.proofs.Common.{◌≡◌, Err, ap, ◌∙◌, rules}
use Rattle.command_text.specs.declared.command.CommandFault.{CommandFault}
use Rattle.command_text.specs.declared.command.CommandFault.TheVariants.{Bad}
use Rattle.command_text.proofs.Operands.{tells_walk, no_front_walk, tell_no_walk}
use Rattle.command_text.proofs.command.read_walker_and_walk.Goals as goal

pub returns-in_err-w-clause-bad : goal.returns-in_err-w-clause-bad
returns-in_err-w-clause-bad c = λ _.
    no_front_walk c.args.bytes.now c.in_err-w.ensures.none

pub returns-in_err-walk-clause-bad : goal.returns-in_err-walk-clause-bad
returns-in_err-walk-clause-bad c = λ is_bad.
    let bad : c.in_err-walk.field-0.0 ≡ Bad = search (rules, is_bad) in
    tell_no_walk c.args.bytes.now c.in_ok-w.text.now c.in_ok-w.w c.in_ok-w.ensures.ok
    (c.letters.ensures.bad (c.in_err-walk.was ∙ ap (λ (f : CommandFault). Err f) bad))

pub returns-clause-ok : goal.returns-clause-ok
returns-clause-ok c =
    tells_walk c.args.bytes.now c.in_ok-w.text.now c.in_ok-w.w c.in_ok-walk.walk
    c.in_ok-w.ensures.ok c.in_ok-walk.ensures.ok
