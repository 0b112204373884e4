use Rattle.command_text.proofs.Forms.{unique}
use Rattle.command_text.proofs.Decided.{decided}
use Rattle.command_text.proofs.laws.spelling.Goals as goal

pub returns-clause-one : goal.returns-clause-one
returns-clause-one c = unique

pub returns-clause-decided : goal.returns-clause-decided
returns-clause-decided c = decided c.number_law.ensures
