-- The lower kinds have a right repeat.
use Rattle.std.proofs.Common.{ℕ, ◌<◌}
use Rattle.handed_kinds.specs.Handed.{handed_at}
use Rattle.handed_kinds.specs.HandedValidity.{HasRepeat}
use Rattle.handed_kinds.proofs.checks.failing_repeat.Given as goal

abbrev pub invariant-loop-k : goal.invariant-loop-k
invariant-loop-k l = (j : ℕ) → j < l.k → HasRepeat (handed_at l.kinds j)
