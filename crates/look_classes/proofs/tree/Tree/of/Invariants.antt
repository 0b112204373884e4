-- The cells before.
use Rattle.std.proofs.Common.{◌≡◌, ℕ, ◌<◌, length, slice_index_or, None}
use Rattle.coincidence.specs.Cells.{IsLive}
use Rattle.look_classes.specs.Tree.{parent_side}
use Rattle.look_classes.proofs.tree.Tree.of.Given as goal

abbrev pub invariant-loop-cell : goal.invariant-loop-cell
invariant-loop-cell l = record {
  long : length l.parents.items ≡ l.cell;
  sides : (c : ℕ) → c < l.cell → IsLive l.region.table.cells c → slice_index_or l.parents.items c None ≡ parent_side l.region c;
}
