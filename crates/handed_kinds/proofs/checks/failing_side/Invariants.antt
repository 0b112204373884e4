-- All sides of lower kinds pass.
use Rattle.std.proofs.Common.{ℕ, ◌<◌}
use Rattle.handed_kinds.specs.Handed.{IsSide}
use Rattle.handed_kinds.specs.Checks.{Passes}
use Rattle.handed_kinds.proofs.checks.failing_side.Given as goal

abbrev pub invariant-loop-k : goal.invariant-loop-k
invariant-loop-k l = (e : ℕ × ℕ) → IsSide l.kinds e → e.0 < l.k → Passes l.check l.kinds e
