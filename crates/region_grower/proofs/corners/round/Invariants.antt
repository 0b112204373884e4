-- The dart come to after so many times.
use Rattle.std.proofs.Common.{◌≡◌, ◌<◌, Some}
use Rattle.region_grower.specs.Corners.{rounds}
use Rattle.region_grower.proofs.corners.round.Given as goal

abbrev pub invariant-loop-time : goal.invariant-loop-time
invariant-loop-time l = record { come : rounds l.time l.joins l.fn.d ≡ Some l.at; side : l.at.1 < 64 }
