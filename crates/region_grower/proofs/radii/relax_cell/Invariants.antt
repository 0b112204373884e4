-- The sides before this one.
use Rattle.std.proofs.Common.{ℕ, ◌<◌}
use Rattle.region_grower.specs.Regions.{IsRelaxedAt}
use Rattle.region_grower.specs.Passes.{HasLowered}
use Rattle.region_grower.proofs.radii.relax_cell.Given as goal

abbrev pub invariant-loop-side : goal.invariant-loop-side
invariant-loop-side l = HasLowered l.joins l.fn.radii l.radii l.changed (λ rs. (i : ℕ) → i < l.side → IsRelaxedAt l.joins rs (l.cell, i))
