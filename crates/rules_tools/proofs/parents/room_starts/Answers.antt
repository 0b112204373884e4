use Rattle.std.proofs.Common.{ℕ, ◌<◌, ◌≤◌, length, sym, subst, arith}
use Rattle.rules_tools.specs.Keys.{class_of as number_at}
use Rattle.rules_tools.specs.Parents.{AreRising}
use Rattle.rules_tools.proofs.Roomy.{rising_more, most_more}
use Rattle.rules_tools.proofs.parents.room_starts.Goals as goal

pub loop-count-preserved : goal.loop-count-preserved
loop-count-preserved c = record {
  rising = subst AreRising (sym c.in_ok-push-2.ensures.items) (rising_more c.loop-count.starts.items c.saturating_add-next.result c.loop-count.invariant.rising below);
  below = subst (λ xs. (i : ℕ) → i < length xs → number_at xs i ≤ c.saturating_add-next.result) (sym c.in_ok-push-2.ensures.items) (most_more c.loop-count.starts.items c.saturating_add-next.result below);
  fits = omega (arith, c.saturating_add-next.ensures);
}
  where
    below : (i : ℕ) → i < length c.loop-count.starts.items → number_at c.loop-count.starts.items i ≤ c.saturating_add-next.result
    below i lt = omega (arith, c.loop-count.invariant.below i lt, c.loop-count.invariant.fits, c.saturating_add-next.ensures)
