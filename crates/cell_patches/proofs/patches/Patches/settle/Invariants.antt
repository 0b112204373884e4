-- The tessellation and how many cells may be made stay, and changes are counted up.
use Rattle.std.proofs.Common.{◌≡◌, ◌≤◌}
use Rattle.cell_patches.proofs.patches.Patches.settle.Given as goal

abbrev pub invariant-loop-turn : goal.invariant-loop-turn
invariant-loop-turn l = record {
  kinds : l.self.kinds ≡ l.fn.self.kinds;
  most : l.self.most ≡ l.fn.self.most;
  changes : l.fn.self.changes ≤ l.self.changes;
}
