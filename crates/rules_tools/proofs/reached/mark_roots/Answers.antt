use Rattle.std.proofs.Common.{◌≡◌, ◌≢◌, ◌⊎◌, inl, inr, ℕ, ◌+◌, ◌<◌, true, length, sym, ap, ◌∙◌, subst, arith}
use Rattle.std.proofs.lemmas.Bool.{cases_eq}
use Rattle.tree_model.specs.Automata.{root_at}
use Rattle.merge_model.specs.Merging.{IsReachable}
use Rattle.merge_laws.proofs.Numbers.{root_reachable}
use Rattle.rules_tools.specs.Reached.{mark_at}
use Rattle.rules_tools.proofs.reached.mark_roots.Goals as goal

pub loop-k-preserved : goal.loop-k-preserved
loop-k-preserved c = record {
  search = c.in_ok-mark.ensures.search c.args.tess.now c.args.a.now c.loop-k.invariant.search reachable;
  marked = λ k lt. go k lt (cases_eq k c.loop-k.k);
}
  where
    known : c.loop-k.k < length c.args.tess.now
    known = omega (arith, c.loop-k-test.true, c.kinds-k-end.ensures.value)

    reachable : IsReachable c.args.tess.now c.args.a.now c.root.result
    reachable = subst (IsReachable c.args.tess.now c.args.a.now) (sym c.root.ensures) (root_reachable c.args.tess.now c.args.a.now c.requires.accepted c.loop-k.k known)

    go : (k : ℕ) → k < c.loop-k.k + 1 → (k ≡ c.loop-k.k) ⊎ (k ≢ c.loop-k.k) → mark_at c.mark.new.marks.items (root_at c.args.a.now k) ≡ true
    go k lt (inl e) = subst (λ x. mark_at c.mark.new.marks.items x ≡ true) (c.root.ensures ∙ ap (root_at c.args.a.now) (sym e)) c.in_ok-mark.ensures.marked
    go k lt (inr other) = c.in_ok-mark.ensures.grows.kept (root_at c.args.a.now k) (c.loop-k.invariant.marked k (omega (arith, lt, other)))
