-- The joins stay.
use Rattle.std.proofs.Common.{◌≡◌}
use Rattle.cell_patches.proofs.patch.Patch.pass_distances_on.Given as goal

abbrev pub invariant-loop-time : goal.invariant-loop-time
invariant-loop-time l = l.self.table ≡ l.fn.self.table
