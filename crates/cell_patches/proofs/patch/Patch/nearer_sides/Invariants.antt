-- Each of these sides leads nearer.
use Rattle.std.proofs.Common.{ℕ}
use Rattle.cell_patches.specs.Patches.{IsAmong, LeadsNearer}
use Rattle.cell_patches.proofs.patch.Patch.nearer_sides.Given as goal

abbrev pub invariant-loop-side : goal.invariant-loop-side
invariant-loop-side l = (i : ℕ) → IsAmong l.sides i → LeadsNearer l.self (l.cell, i)
