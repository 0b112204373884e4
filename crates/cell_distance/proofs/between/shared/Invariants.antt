use Rattle.std.proofs.Common.{length, take, ◌-◌, ◌≡◌, ◌≤◌}
use Rattle.cell_distance.proofs.between.shared.Given as goal

abbrev pub invariant-loop-count : goal.invariant-loop-count
invariant-loop-count l = record {
  first : l.count ≤ length l.u;
  second : l.count ≤ length l.w;
  same : take l.count l.u ≡ take l.count l.w;
}

abbrev pub decreases-loop-count : goal.decreases-loop-count
decreases-loop-count l = length l.u - l.count
