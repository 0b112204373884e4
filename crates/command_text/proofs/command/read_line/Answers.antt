use Rattle.std.proofs.Common.{Err, ap, ◌∙◌}
use Rattle.command_text.proofs.command.read_line.Goals as goal

pub returns-in-Err-Bad-clause-bad : goal.returns-in-Err-Bad-clause-bad
returns-in-Err-Bad-clause-bad c = λ _.
    c.read_command.ensures.bad (c.in-Err-Bad.is ∙ ap Err c.in-Err-Bad.field-0-is)
