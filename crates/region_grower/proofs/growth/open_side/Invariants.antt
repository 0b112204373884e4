-- The sides before this one are joined.
use Rattle.std.proofs.Common.{ℕ, ◌<◌}
use Rattle.region_grower.specs.Ways.{IsJoined}
use Rattle.region_grower.proofs.growth.open_side.Given as goal

abbrev pub invariant-loop-side : goal.invariant-loop-side
invariant-loop-side l = (i : ℕ) → i < l.side → IsJoined l.joins (l.cell, i)
