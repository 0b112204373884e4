use Rattle.structure_check.specs.Search.{CornersBelow}
use Rattle.structure_check.proofs.corners.check_corners.Given as goal

abbrev pub invariant-loop-g : goal.invariant-loop-g
invariant-loop-g l = CornersBelow l.condition l.a l.g
