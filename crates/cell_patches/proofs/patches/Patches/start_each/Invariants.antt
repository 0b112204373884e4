-- One patch, and one cell, for each kind before this one.
use Rattle.std.proofs.Common.{◌≡◌, length}
use Rattle.cell_patches.specs.Patches.{cells_made}
use Rattle.cell_patches.proofs.patches.Patches.start_each.Given as goal

abbrev pub invariant-loop-kind : goal.invariant-loop-kind
invariant-loop-kind l = record { patches : length l.patches.items ≡ l.kind; made : cells_made l.patches.items ≡ l.kind }
