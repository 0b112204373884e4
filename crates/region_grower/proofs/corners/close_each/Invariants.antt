-- The cells before this one.
use Rattle.std.proofs.Common.{ℕ, ◌<◌, ◌≤◌}
use Rattle.region_grower.specs.Ways.{IsDart}
use Rattle.region_grower.specs.Corners.{IsClosed}
use Rattle.region_grower.specs.Passes.{HasPassed}
use Rattle.region_grower.proofs.corners.close_each.Given as goal

abbrev pub invariant-loop-cell : goal.invariant-loop-cell
invariant-loop-cell l = HasPassed l.fn.joins l.joins l.changed (λ t. (c i : ℕ) → c < l.cell → l.fn.from ≤ c → IsDart t (c, i) → IsClosed t (c, i))
