use Rattle.structure_check.proofs.First.{refutes, one_first}
use Rattle.structure_check.proofs.laws.first_broken_law.Goals as goal

pub returns-clause-refuted : goal.returns-clause-refuted
returns-clause-refuted c = refutes

pub returns-clause-one : goal.returns-clause-one
returns-clause-one c = one_first
