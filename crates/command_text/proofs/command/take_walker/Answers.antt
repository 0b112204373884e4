use Rattle.std.proofs.Common.{ℕ, List, sym, ◌∙◌, subst}
use Rattle.command_text.specs.CommandLines.{space, IsWalkerNumber}
use Rattle.command_text.proofs.Splits.{lacks_none, one_split}
use Rattle.command_text.proofs.Numbers.{walker_lacks}
use Rattle.command_text.proofs.Begins.{if_err}
use Rattle.command_text.proofs.command.take_walker.Goals as goal

pub returns-in_default-clause-none : goal.returns-in_default-clause-none
returns-in_default-clause-none c = λ w rest is.
    lacks_none space c.args.bytes.now is.digits rest c.in_default.ensures.none is.text

pub returns-in_err-w-clause-none : goal.returns-in_err-w-clause-none
returns-in_err-w-clause-none c = if_err c.from_residual.result λ w rest is.
    let same =
    one_split space is.digits c.in-Some.digits.now rest c.in-Some.rest.now
    (walker_lacks is.digits w is.number) c.in-Some.ensures.first
    (sym is.text ∙ c.in-Some.ensures.split) in
    c.in_err-w.ensures.none w (subst (λ (l : List ℕ). IsWalkerNumber l w) same.0 is.number)
