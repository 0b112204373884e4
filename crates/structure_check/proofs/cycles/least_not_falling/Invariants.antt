use Rattle.structure_check.proofs.Judging.{IsFar}
use Rattle.structure_check.proofs.cycles.least_not_falling.Given as goal

abbrev pub invariant-loop-g : goal.invariant-loop-g
invariant-loop-g l = IsFar l.a l.seen l.least l.g
