use Rattle.command_text.proofs.Operands.{tells_text, no_front_text}
use Rattle.command_text.proofs.command.read_walker_and_text.Goals as goal

pub returns-in_err-w-clause-bad : goal.returns-in_err-w-clause-bad
returns-in_err-w-clause-bad c = λ _. no_front_text c.args.bytes.now c.in_err-w.ensures.none

pub returns-in-Ok-clause-ok : goal.returns-in-Ok-clause-ok
returns-in-Ok-clause-ok c =
    tells_text c.args.bytes.now c.in_ok-w.text.now c.in_ok-w.w c.in-Ok.copy c.in_ok-w.ensures.ok
    c.in-Ok.ensures
