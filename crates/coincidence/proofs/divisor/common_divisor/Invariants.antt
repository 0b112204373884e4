-- What divides both numbers divides the first two, and what both numbers turn alike both did at first.
use Rattle.std.proofs.Common.{◌≡◌, ◌<◌, ◌%◌, ℕ}
use Rattle.coincidence.specs.Atlases.{Atlas, HasPeriod}
use Rattle.coincidence.proofs.divisor.common_divisor.Given as goal

abbrev pub invariant-loop-lesser : goal.invariant-loop-lesser
invariant-loop-lesser l = record {
  positive : 0 < l.greater;
  divides : (g : ℕ) → l.greater % g ≡ 0 → l.lesser % g ≡ 0 → (l.first % g ≡ 0) × (l.second % g ≡ 0);
  periods : (atlas : Atlas) (c : ℕ) → HasPeriod atlas c l.first → HasPeriod atlas c l.second → HasPeriod atlas c l.greater × HasPeriod atlas c l.lesser;
}

abbrev pub decreases-loop-lesser : goal.decreases-loop-lesser
decreases-loop-lesser l = l.lesser
