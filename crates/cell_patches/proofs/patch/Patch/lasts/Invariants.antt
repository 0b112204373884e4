-- Each of these sides leads nearer.
use Rattle.std.proofs.Common.{ℕ}
use Rattle.cell_patches.specs.Patches.{IsAmong, LeadsNearer}
use Rattle.cell_patches.proofs.patch.Patch.lasts.Given as goal

abbrev pub invariant-loop-side : goal.invariant-loop-side
invariant-loop-side l = (i : ℕ) → IsAmong l.lasts i → LeadsNearer l.self (l.cell, i)
