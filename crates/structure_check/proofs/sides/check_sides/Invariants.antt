use Rattle.structure_check.specs.Search.{StatesBelow}
use Rattle.structure_check.proofs.sides.check_sides.Given as goal

abbrev pub invariant-loop-s : goal.invariant-loop-s
invariant-loop-s l = StatesBelow l.condition l.tess l.a l.s
