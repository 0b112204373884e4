-- The dart come to is one of a live cell.
use Rattle.region_grower.specs.Ways.{IsDart}
use Rattle.region_grower.proofs.corners.back.Given as goal

abbrev pub invariant-loop-time : goal.invariant-loop-time
invariant-loop-time l = IsDart l.joins l.at
