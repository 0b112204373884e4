use Rattle.log_laws.proofs.Logged.{crossings_are_logged, contours_write_logs}
use Rattle.log_laws.proofs.laws.crossings.Goals as goal

pub returns-clause-lead : goal.returns-clause-lead
returns-clause-lead c = crossings_are_logged

pub returns-clause-written : goal.returns-clause-written
returns-clause-written c = contours_write_logs
