-- The corners of the sides before this one are whole.
use Rattle.std.proofs.Common.{ℕ, ◌<◌}
use Rattle.region_grower.specs.Corners.{IsWhole}
use Rattle.region_grower.proofs.corners.is_cell_whole.Given as goal

abbrev pub invariant-loop-side : goal.invariant-loop-side
invariant-loop-side l = (i : ℕ) → i < l.side → IsWhole l.joins (l.cell, i)
