-- The lower kinds have a right repeat.
use Rattle.std.proofs.Common.{ℕ, ◌<◌}
use Rattle.tile_model.specs.Tessellations.{kind_at}
use Rattle.tile_model.specs.Validity.{HasRepeat}
use Rattle.tile_kinds.proofs.checks.failing_repeat.Given as goal

abbrev pub invariant-loop-k : goal.invariant-loop-k
invariant-loop-k l = (j : ℕ) → j < l.k → HasRepeat (kind_at l.kinds j)
