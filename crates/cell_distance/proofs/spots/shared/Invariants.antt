use Rattle.std.proofs.Common.{length, take, ◌-◌, ◌≡◌, ◌≤◌}
use Rattle.cell_distance.proofs.spots.shared.Given as goal

abbrev pub invariant-loop-count : goal.invariant-loop-count
invariant-loop-count l = record {
  first : l.count ≤ length l.m;
  second : l.count ≤ length l.n;
  same : take l.count l.m ≡ take l.count l.n;
}

abbrev pub decreases-loop-count : goal.decreases-loop-count
decreases-loop-count l = length l.m - l.count

abbrev pub invariant-loop-count-2 : goal.invariant-loop-count-2
invariant-loop-count-2 l = record {
  first : l.count ≤ length l.m;
  second : l.count ≤ length l.n;
  same : take l.count l.m ≡ take l.count l.n;
}

abbrev pub decreases-loop-count-2 : goal.decreases-loop-count-2
decreases-loop-count-2 l = length l.m - l.count
