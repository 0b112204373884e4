use Rattle.log_model.proofs.Changes.{one_change}
use Rattle.log_model.proofs.Leading.{lead_one, refused_nowhere, one_refused}
use Rattle.log_model.proofs.laws.log_laws.Goals as goal

pub returns-clause-changes : goal.returns-clause-changes
returns-clause-changes c = λ kinds d change u v w p q. one_change kinds d p q

pub returns-clause-logs : goal.returns-clause-logs
returns-clause-logs c = lead_one

pub returns-clause-related : goal.returns-clause-related
returns-clause-related c = λ kinds d log u w r. (log, r)

pub returns-clause-nowhere : goal.returns-clause-nowhere
returns-clause-nowhere c = refused_nowhere

pub returns-clause-one : goal.returns-clause-one
returns-clause-one c = one_refused
