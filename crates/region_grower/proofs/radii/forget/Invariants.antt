-- The radii before this one are far.
use Rattle.std.proofs.Common.{◌≡◌, ℕ, ◌<◌, get_or}
use Rattle.region_grower.proofs.radii.forget.Given as goal

abbrev pub invariant-loop-radius : goal.invariant-loop-radius
invariant-loop-radius l = (k : ℕ) → k < l.radius-index → get_or l.radii k 0 ≡ 1000000
