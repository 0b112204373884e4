-- The joins stay.
use Rattle.std.proofs.Common.{◌≡◌}
use Rattle.cell_patches.proofs.patch.Patch.find_parent.Given as goal

abbrev pub invariant-loop-look : goal.invariant-loop-look
invariant-loop-look l = l.self ≡ l.fn.self
