use Rattle.structure_check.specs.Search.{SidesBelow}
use Rattle.structure_check.proofs.sides.failing_side.Given as goal

abbrev pub invariant-loop-i : goal.invariant-loop-i
invariant-loop-i l = SidesBelow l.condition l.tess l.a l.s l.i
