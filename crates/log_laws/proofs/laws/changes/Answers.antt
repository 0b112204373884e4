use Rattle.log_laws.proofs.Logged.{changes_are_functions}
use Rattle.log_laws.proofs.laws.changes.Goals as goal

pub returns : goal.returns
returns c = changes_are_functions
