-- The lower kinds have a right number of sides.
use Rattle.std.proofs.Common.{ℕ, ◌<◌}
use Rattle.tile_model.specs.Tessellations.{kind_at}
use Rattle.tile_model.specs.Validity.{HasSides}
use Rattle.tile_kinds.proofs.checks.failing_sides.Given as goal

abbrev pub invariant-loop-k : goal.invariant-loop-k
invariant-loop-k l = (j : ℕ) → j < l.k → HasSides (kind_at l.kinds j)
