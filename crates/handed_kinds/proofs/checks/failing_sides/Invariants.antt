-- The lower kinds have a right number of sides.
use Rattle.std.proofs.Common.{ℕ, ◌<◌}
use Rattle.handed_kinds.specs.Handed.{handed_at}
use Rattle.handed_kinds.specs.HandedValidity.{HasSides}
use Rattle.handed_kinds.proofs.checks.failing_sides.Given as goal

abbrev pub invariant-loop-k : goal.invariant-loop-k
invariant-loop-k l = (j : ℕ) → j < l.k → HasSides (handed_at l.kinds j)
