use Rattle.std.proofs.Common.{◌≡◌, ◌≢◌, ◌⊎◌, inl, inr, ℕ, ◌+◌, ◌<◌, subst, sym, arith}
use Rattle.std.proofs.lemmas.Bool.{cases_eq}
use Rattle.rules_tools.specs.Searches.{IsChild}
use Rattle.rules_tools.specs.Parents.{HasParent}
use Rattle.rules_tools.proofs.parents.put_state.Goals as goal

pub loop-side-preserved : goal.loop-side-preserved
loop-side-preserved c = record {
  spaced = c.put_side.ensures.spaced;
  sound = c.put_side.ensures.sound;
  kept = λ k x has. c.put_side.ensures.kept k x (c.loop-side.invariant.kept k x has);
  all = λ i k lt child. go i k lt child (cases_eq i c.loop-side.side);
}
  where
    go : (i k : ℕ) → i < c.loop-side.side + 1 → IsChild c.args.a.now c.args.s i k → (i ≡ c.loop-side.side) ⊎ (i ≢ c.loop-side.side) → HasParent c.put_side.new.p k (record { state = c.args.s; side = i })
    go i k lt child (inl e) =
        subst (λ j. HasParent c.put_side.new.p k (record { state = c.args.s; side = j })) (sym e)
        (c.put_side.ensures.put c.if-not-put_side.false k (subst (λ j. IsChild c.args.a.now c.args.s j k) e child))
    go i k lt child (inr d) = c.put_side.ensures.kept k (record { state = c.args.s; side = i }) (c.loop-side.invariant.all i k (omega (arith, lt, d)) child)
