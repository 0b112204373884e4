-- The sides before this one.
use Rattle.std.proofs.Common.{ℕ, ◌<◌}
use Rattle.region_grower.specs.Ways.{IsDart}
use Rattle.region_grower.specs.Corners.{IsClosed}
use Rattle.region_grower.specs.Passes.{HasPassed}
use Rattle.region_grower.proofs.corners.close_cell.Given as goal

abbrev pub invariant-loop-side : goal.invariant-loop-side
invariant-loop-side l = HasPassed l.fn.joins l.joins l.changed (λ t. (i : ℕ) → i < l.side → IsDart t (l.cell, i) → IsClosed t (l.cell, i))
