use Rattle.handed_kinds.proofs.Refused.{refuted}
use Rattle.handed_kinds.proofs.OneFault.{one_fault}
use Rattle.handed_kinds.proofs.laws.fault_laws.Goals as goal

pub returns-clause-refuted : goal.returns-clause-refuted
returns-clause-refuted c = refuted

pub returns-clause-one : goal.returns-clause-one
returns-clause-one c = one_fault
