-- The sides before this one.
use Rattle.std.proofs.Common.{ℕ, ◌<◌}
use Rattle.region_grower.specs.Regions.{IsRelaxedAt}
use Rattle.region_grower.proofs.radii.has_over.Given as goal

abbrev pub invariant-loop-side : goal.invariant-loop-side
invariant-loop-side l = (i : ℕ) → i < l.side → IsRelaxedAt l.joins l.radii (l.cell, i)
