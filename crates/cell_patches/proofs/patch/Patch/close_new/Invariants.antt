-- No cell is made.
use Rattle.std.proofs.Common.{◌≡◌}
use Rattle.cell_patches.proofs.patch.Patch.close_new.Given as goal

abbrev pub invariant-loop-pass : goal.invariant-loop-pass
invariant-loop-pass l = l.self.table.origins ≡ l.fn.self.table.origins
