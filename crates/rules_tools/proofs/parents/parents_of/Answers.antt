use Rattle.std.proofs.Common.{◌≡◌, ◌≢◌, ◌⊎◌, inl, inr, ℕ, ◌+◌, ◌<◌, subst, sym, arith}
use Rattle.std.proofs.lemmas.Bool.{cases_eq}
use Rattle.rules_tools.specs.Searches.{IsChild}
use Rattle.rules_tools.specs.Parents.{HasParent}
use Rattle.rules_tools.proofs.parents.parents_of.Goals as goal

pub loop-s-init : goal.loop-s-init
loop-s-init c = record {
  spaced = c.in_ok-parents.ensures.spaced;
  sound = λ k x has. absurd (c.in_ok-parents.ensures.none k x has);
  all = λ s i k lt. absurd (omega (arith, lt));
}

pub loop-s-preserved : goal.loop-s-preserved
loop-s-preserved c = record {
  spaced = c.put_state.ensures.spaced;
  sound = c.put_state.ensures.sound;
  all = λ s i k lt low child. go s i k lt low child (cases_eq s c.loop-s.s);
}
  where
    go : (s i k : ℕ) → s < c.loop-s.s + 1 → i < 64 → IsChild c.args.a.now s i k → (s ≡ c.loop-s.s) ⊎ (s ≢ c.loop-s.s) → HasParent c.put_state.new.p k (record { state = s; side = i })
    go s i k lt low child (inl e) =
        subst (λ t. HasParent c.put_state.new.p k (record { state = t; side = i })) (sym e)
        (c.put_state.ensures.all c.if-not-put_state.false i k low (subst (λ t. IsChild c.args.a.now t i k) e child))
    go s i k lt low child (inr d) = c.put_state.ensures.kept k (record { state = s; side = i }) (c.loop-s.invariant.all s i k (omega (arith, lt, d)) low child)
