-- The joins stay.
use Rattle.std.proofs.Common.{◌≡◌}
use Rattle.cell_patches.proofs.patch.Patch.forget_around.Given as goal

abbrev pub invariant-loop-side : goal.invariant-loop-side
invariant-loop-side l = l.self ≡ l.fn.self
