-- No more cells are made than may be.
use Rattle.std.proofs.Common.{◌≤◌, length}
use Rattle.cell_patches.proofs.patch.Patch.close_corner.Given as goal

abbrev pub invariant-loop-step : goal.invariant-loop-step
invariant-loop-step l = length l.self.table.origins ≤ l.most
