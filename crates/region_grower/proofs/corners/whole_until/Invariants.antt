-- The corners of the cells before this one are whole.
use Rattle.std.proofs.Common.{◌-◌, length}
use Rattle.region_grower.specs.Growth.{AreWhole}
use Rattle.region_grower.proofs.corners.whole_until.Given as goal

abbrev pub invariant-loop-until : goal.invariant-loop-until
invariant-loop-until l = AreWhole l.joins l.until

abbrev pub decreases-loop-until : goal.decreases-loop-until
decreases-loop-until l = length l.joins.origins - l.until
