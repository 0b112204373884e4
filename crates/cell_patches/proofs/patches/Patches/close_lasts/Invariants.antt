-- The tessellation and how many cells may be made stay, and changes are counted up.
use Rattle.std.proofs.Common.{◌≡◌, ◌≤◌}
use Rattle.cell_patches.proofs.patches.Patches.close_lasts.Given as goal

abbrev pub invariant-loop-side : goal.invariant-loop-side
invariant-loop-side l = record {
  kinds : l.self.kinds ≡ l.fn.self.kinds;
  most : l.self.most ≡ l.fn.self.most;
  changes : l.fn.self.changes ≤ l.self.changes;
}
