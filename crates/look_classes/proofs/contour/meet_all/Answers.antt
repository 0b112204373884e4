-- From nothing, all is met.
use Rattle.std.proofs.Common.{◌≡◌, ℕ, ◌<◌, ◌⊎◌, ◌≤◌, length, [], ◌∷◌, ◌++◌, get_or, replicate, sym, ap, ◌∙◌, subst, inl, inr, arith}
use Rattle.std.proofs.lemmas.Bool.{cases_lt}
use Rattle.std.proofs.lemmas.List.{take_at, length-replicate, get_or-replicate, get_or_past, replicate_more}
use Rattle.coincidence.specs.Darts.{pack}
use Rattle.look_classes.specs.Contours.{AreMet, AllMet, not_met}
use Rattle.look_classes.proofs.Walks.{none_met}
use Rattle.look_classes.proofs.contour.meet_all.Goals as goal

none_steps : (n k : ℕ) → (get_or (replicate n not_met) k not_met).steps ≡ 0
none_steps n k = go (cases_lt k n)
  where
    go : (k < n) ⊎ (n ≤ k) → (get_or (replicate n not_met) k not_met).steps ≡ 0
    go (inl lt) = ap (λ m. m.steps) (get_or-replicate n k not_met not_met lt)
    go (inr le) = ap (λ m. m.steps) (get_or_past (replicate n not_met) k not_met (omega (arith, le, length-replicate n not_met)))

pub loop-dart-preserved : goal.loop-dart-preserved
loop-dart-preserved c = c.in_ok-push.ensures.items ∙ (ap (λ xs. xs ++ not_met ∷ []) c.loop-dart.invariant ∙ replicate_more c.loop-dart.dart not_met)

pub meet-requires : goal.meet-requires
meet-requires c =
    let items = c.deref_mut.ensures.value ∙ c.loop-dart.invariant in
    let all = length-replicate c.loop-dart.dart not_met in
    none_met c.args.tree.now c.deref_mut.result.now (ap length items ∙ omega (arith, all, c.loop-dart-test.false, c.loop-dart.auto.dart-end, c.darts-dart-end.ensures.value)) (λ d. ap (λ xs. (get_or xs (pack d) not_met).steps) items ∙ none_steps c.loop-dart.dart (pack d))

pub returns-clause-met : goal.returns-clause-met
returns-clause-met c = subst (AreMet c.args.tree.now) (sym (take_at c.meet.new.met _ c.loop-dart.met.len (omega (arith, c.meet.auto.met, c.deref_mut.ensures.len)))) c.meet.ensures.met

pub returns-clause-all : goal.returns-clause-all
returns-clause-all c = subst (AllMet c.args.tree.now) (sym (take_at c.meet.new.met _ c.loop-dart.met.len (omega (arith, c.meet.auto.met, c.deref_mut.ensures.len)))) c.meet.ensures.all
