-- Each round finds more classes, at most one for each entry.
use Rattle.std.proofs.Common.{◌≡◌, ◌≤◌, ◌-◌, length}
use Rattle.cone_types.proofs.partition.coarsest_partition.Given as goal

abbrev pub invariant-loop-partition : goal.invariant-loop-partition
invariant-loop-partition g l = record {
  entries : length l.partition.classes.items ≡ l.entries;
  count : l.partition.count ≤ l.entries;
}

abbrev pub decreases-loop-partition : goal.decreases-loop-partition
decreases-loop-partition g l = l.entries - l.partition.count
