use Rattle.std.proofs.Common.{◌≡◌, ◌≢◌, ◌⊎◌, inl, inr, ℕ, suc, ◌+◌, ◌<◌, ◌≤◌, Contains, length, sym, ap, ap₂, ◌∙◌, subst, arith}
use Rattle.std.proofs.lemmas.Bool.{cases_eq}
use Rattle.rules_tools.specs.declared.parents.Parent.{Parent}
use Rattle.rules_tools.specs.Keys.{class_of as number_at}
use Rattle.rules_tools.specs.Rows.{row}
use Rattle.rules_tools.specs.Parents.{HasParent, entry_at}
use Rattle.rules_tools.proofs.splitting.add_parents.Goals as goal

pub loop-at-preserved : goal.loop-at-preserved
loop-at-preserved c = record {
  long = c.add_parent.ensures.long;
  kept = λ i s has. c.in_ok-add_parent.ensures.kept i s (c.loop-at.invariant.kept i s has);
  added = λ j from lt low. added j from lt low (cases_eq j c.loop-at.at);
  only = λ i s has. only i s (c.in_ok-add_parent.ensures.only i s has);
}
  where
    at : ℕ
    at = c.loop-at.at

    from_start : number_at c.args.parents.now.starts.items c.args.u ≤ at
    from_start = omega (arith, c.loop-at.auto.at, c.class_of-at.ensures, ap (λ xs. number_at xs c.args.u) c.deref.ensures.value)

    below_end : at < number_at c.args.parents.now.ends.items c.args.u
    below_end = omega (arith, c.loop-at-test.true, c.class_of-at-end.ensures, ap (λ xs. number_at xs c.args.u) c.deref-2.ensures.value)

    added : (j : ℕ) → number_at c.args.parents.now.starts.items c.args.u ≤ j → j < at + 1 → (entry_at c.args.parents.now j).side < 64 → (j ≡ at) ⊎ (j ≢ at) → Contains (row c.add_parent.new.found.items (entry_at c.args.parents.now j).side) (entry_at c.args.parents.now j).state
    added j from lt low (inl e) =
        let same : c.entry.result ≡ entry_at c.args.parents.now j = c.entry.ensures ∙ ap (entry_at c.args.parents.now) (sym e) in
        subst (λ (y : Parent). Contains (row c.add_parent.new.found.items y.side) y.state) same
        (c.in_ok-add_parent.ensures.added (subst (λ (y : Parent). y.side < 64) (sym same) low))
    added j from lt low (inr d) =
        c.in_ok-add_parent.ensures.kept (entry_at c.args.parents.now j).side (entry_at c.args.parents.now j).state
        (c.loop-at.invariant.added j from (omega (arith, lt, d)) low)

    only : (i s : ℕ) → Contains (row c.loop-at.found.items i) s ⊎ ((i ≡ c.entry.result.side) × (s ≡ c.entry.result.state))
        → Contains (row c.args.found.now.items i) s
        ⊎ ((j : ℕ) × (number_at c.args.parents.now.starts.items c.args.u ≤ j) × (j < number_at c.args.parents.now.ends.items c.args.u) × (entry_at c.args.parents.now j ≡ record { state = s; side = i }))
    only i s (inl old) = c.loop-at.invariant.only i s old
    only i s (inr (e, e')) = inr (at, from_start, below_end, sym c.entry.ensures ∙ made c.entry.result i s e e')
      where
        made : (y : Parent) (i s : ℕ) → i ≡ y.side → s ≡ y.state → y ≡ record { state = s; side = i }
        made y i s e e' = ap₂ (λ a b. record { state = a; side = b }) (sym e') (sym e)

pub returns-clause-only : goal.returns-clause-only
returns-clause-only c = λ i s has. go i s (c.loop-at.invariant.only i s has)
  where
    known : suc c.args.u < length c.args.parents.now.starts.items
    known = omega (arith, c.if-u-len.false, c.len.ensures, c.args.parents.now.starts.ok.0)

    go : (i s : ℕ) → Contains (row c.args.found.now.items i) s
        ⊎ ((j : ℕ) × (number_at c.args.parents.now.starts.items c.args.u ≤ j) × (j < number_at c.args.parents.now.ends.items c.args.u) × (entry_at c.args.parents.now j ≡ record { state = s; side = i }))
        → Contains (row c.args.found.now.items i) s ⊎ HasParent c.args.parents.now c.args.u (record { state = s; side = i })
    go i s (inl old) = inl old
    go i s (inr (j, from, below, is)) = inr (record { at = j; known = known; from = from; below = below; is = is })
