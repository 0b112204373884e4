-- Each pass that changes something lowers the sum of the radii.
use Rattle.std.proofs.Common.{◌≡◌, ◌≤◌, length, slice_index, sum}
use Rattle.region_grower.specs.Regions.{AreReached}
use Rattle.region_grower.proofs.radii.measure.Given as goal

abbrev pub invariant-loop : goal.invariant-loop
invariant-loop l = record {
  long : length l.joins.origins ≤ length l.radii;
  reached : AreReached l.joins l.radii;
  first : slice_index l.radii 0 ≡ 0;
}

abbrev pub decreases-loop : goal.decreases-loop
decreases-loop l = sum l.radii
