-- The cells before this one.
use Rattle.std.proofs.Common.{ℕ, ◌<◌}
use Rattle.coincidence.specs.Cells.{IsLive}
use Rattle.region_grower.specs.Regions.{IsRelaxed}
use Rattle.region_grower.proofs.radii.is_measured.Given as goal

abbrev pub invariant-loop-cell : goal.invariant-loop-cell
invariant-loop-cell l = (c : ℕ) → c < l.cell → IsLive l.joins.cells c → IsRelaxed l.joins l.radii c
