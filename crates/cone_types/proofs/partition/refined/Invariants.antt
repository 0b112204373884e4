-- The entries so far have classes, of which so many are not apart.
use Rattle.std.proofs.Common.{◌≤◌, ◌-◌}
use Rattle.indexmap.specs.IndexSet.{index_set_len}
use Rattle.cone_types.specs.Partitions.{IsPartition}
use Rattle.cone_types.proofs.partition.refined.Given as goal

abbrev pub invariant-loop-entry : goal.invariant-loop-entry
invariant-loop-entry g l = record {
  partition : IsPartition l.entry l.apart l.next.items;
  few : index_set_len l.looks ≤ l.entry - l.apart;
}
