-- A list with a fault is not valid, and has no other fault.
use Rattle.std.proofs.Common.{subst}
use Rattle.handed_kinds.specs.HandedFaults.{IsHandedFault}
use Rattle.handed_kinds.proofs.Refused.{refuted}
use Rattle.handed_kinds.proofs.OneFault.{one_fault}
use Rattle.handed_kinds.proofs.handed.Handed.make.Goals as goal

pub returns-in-Some-clause-exactly : goal.returns-in-Some-clause-exactly
returns-in-Some-clause-exactly c = ((λ h. cc), λ valid. absurd (refuted _ _ c.in-Some.ensures.some (rw c.deref.ensures.value valid)))

pub returns-in-Some-clause-no_other_fault : goal.returns-in-Some-clause-no_other_fault
returns-in-Some-clause-no_other_fault c = λ fault has. one_fault c.args.kinds.items fault c.in-Some.fault has (subst (λ kinds. IsHandedFault kinds c.in-Some.fault) c.deref.ensures.value c.in-Some.ensures.some)
