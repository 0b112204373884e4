use Rattle.rules_file.proofs.Unique.{spelt_no_failure, one_first_fault}
use Rattle.rules_file.proofs.laws.first_fault_law.Goals as goal

pub returns-clause-refuted : goal.returns-clause-refuted
returns-clause-refuted c = spelt_no_failure

pub returns-clause-one : goal.returns-clause-one
returns-clause-one c = one_first_fault
