use Rattle.std.proofs.Common.{◌≡◌, ◌≢◌, ◌⊎◌, inl, inr, ℕ, ◌+◌, ◌<◌, Contains, length, sym, ◌∙◌, subst, arith}
use Rattle.std.proofs.lemmas.Bool.{cases_eq}
use Rattle.std.proofs.lemmas.List.{get_or_default}
use Rattle.rules_tools.specs.Keys.{class_of}
use Rattle.rules_tools.specs.Rows.{row}
use Rattle.rules_tools.proofs.splitting.with_members.Goals as goal

pub loop-s-preserved : goal.loop-s-preserved
loop-s-preserved c = λ t lt. go t lt (cases_eq t c.loop-s.s)
  where
    within : c.loop-s.s < length c.args.class.items
    within = omega (arith, c.loop-s-test.true, c.len-s-end.ensures, c.args.class.ok.0)

    number : c.index.result.now ≡ class_of c.args.class.items c.loop-s.s
    number = c.index.ensures ∙ get_or_default c.args.class.items c.loop-s.s c.index.result.now 0 within

    go : (t : ℕ) → t < c.loop-s.s + 1 → (t ≡ c.loop-s.s) ⊎ (t ≢ c.loop-s.s) → Contains (row c.add_to.new.rows.items (class_of c.args.class.items t)) t
    go t lt (inl e) =
        subst (λ y. Contains (row c.add_to.new.rows.items (class_of c.args.class.items y)) y) (sym e)
        (subst (λ k. Contains (row c.add_to.new.rows.items k) c.loop-s.s) number c.in_ok-add_to.ensures.added)
    go t lt (inr d) = c.in_ok-add_to.ensures.kept (class_of c.args.class.items t) t (c.loop-s.invariant t (omega (arith, lt, d)))
