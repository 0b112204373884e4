-- The joins stay, and cell after cell is looked at.
use Rattle.std.proofs.Common.{◌≡◌}
use Rattle.cell_patches.proofs.patch.Patch.note_renamed.Given as goal

abbrev pub invariant-loop-left : goal.invariant-loop-left
invariant-loop-left l = l.self.table ≡ l.fn.self.table

abbrev pub decreases-loop-left : goal.decreases-loop-left
decreases-loop-left l = l.cell
