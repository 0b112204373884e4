-- All types of lower kinds pass.
use Rattle.std.proofs.Common.{ℕ, ◌<◌}
use Rattle.tile_model.specs.Tessellations.{IsType}
use Rattle.tile_kinds.specs.Checks.{Passes}
use Rattle.tile_kinds.proofs.checks.failing_type.Given as goal

abbrev pub invariant-loop-k : goal.invariant-loop-k
invariant-loop-k l = (e : ℕ × ℕ) → IsType l.kinds e → e.0 < l.k → Passes l.check l.kinds e
