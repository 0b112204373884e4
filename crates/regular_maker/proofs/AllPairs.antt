-- The list of all pairs: it begins with the pair of the children of the root, and the pair of each
-- child of each state is in it.
use Rattle.std.proofs.Common.{◌≡◌, ℕ, zero, suc, ◌+◌, ◌-◌, ◌<◌, ◌≤◌, inl, inr, List, [], ◌∷◌, length, refl, sym, ap, ◌∙◌, subst, arith, true}
use Rattle.std.proofs.lemmas.Bool.{cases_lt}
use Rattle.regular_maker.specs.States.{is_child, child_pair, first_pair}
use Rattle.regular_maker.specs.Automaton.{pair_at, pairs_met, all_pairs}
use Rattle.regular_maker.specs.declared.symbol.Pair.{Pair}
use Rattle.regular_maker.proofs.Shapes.{IsShape}
use Rattle.regular_maker.proofs.Growing.{Grows, IsIn, pairs_met_at, IsList, in_grows, at_in, met_more, met_done, met_grows, met_list}
use Rattle.regular_maker.proofs.Few.{few_pairs}

module _ (p q : ℕ) (shape : IsShape p q) where
  pub met_few : (n : ℕ) → length (pairs_met p q n) ≤ 16384
  met_few n = few_pairs p q shape (pairs_met p q n) (met_list p q shape n)

  -- where the states are gone through, no pair is met any more
  met_rests : (n k : ℕ) → length (pairs_met p q n) ≤ n → pairs_met p q (k + n) ≡ pairs_met p q n
  met_rests n zero h = let e : 0 + n ≡ n = omega arith in ap (pairs_met p q) e
  met_rests n (suc k) h =
      let before = met_rests n k h in
      let e : suc k + n ≡ suc (k + n) = omega arith in
      let long : length (pairs_met p q (k + n)) ≡ length (pairs_met p q n) = ap length before in
      ap (pairs_met p q) e ∙ met_done p q shape (k + n) (omega (arith, long, h)) ∙ before

  pub all_met : (n : ℕ) → length (pairs_met p q n) ≤ n → n ≤ 16384 → all_pairs p q ≡ pairs_met p q n
  unfolding all_pairs
  all_met n h few =
      let e : 16384 ≡ (16384 - n) + n = omega (arith, few) in
      ap (pairs_met p q) e ∙ met_rests n (16384 - n) h

  pub all_list : IsList p q (all_pairs p q)
  unfolding all_pairs
  all_list = met_list p q shape 16384

  pub all_few : length (all_pairs p q) ≤ 16384
  unfolding all_pairs
  all_few = met_few 16384

  pub all_grows : (n : ℕ) → n ≤ 16384 → Grows q (pairs_met p q n) (all_pairs p q)
  unfolding all_pairs
  all_grows n h =
      let e : (16384 - n) + n ≡ 16384 = omega (arith, h) in
      subst (λ m. Grows q (pairs_met p q n) (pairs_met p q m)) e (met_grows p q shape n (16384 - n))

  pub first_met : pairs_met p q 0 ≡ first_pair q ∷ []
  unfolding pairs_met
  first_met = refl

  first_at : pair_at q (first_pair q ∷ []) 0 ≡ first_pair q
  unfolding pair_at
  first_at = refl

  pub all_some : 0 < length (all_pairs p q)
  all_some = omega (arith, ap length first_met, (all_grows 0 (omega arith)).longer)

  pub all_first : pair_at q (all_pairs p q) 0 ≡ first_pair q
  all_first =
      let some : 0 < length (pairs_met p q 0) = omega (arith, ap length first_met) in
      (all_grows 0 (omega arith)).same 0 some ∙ ap (λ (xs : List Pair). pair_at q xs 0) first_met
      ∙ first_at

  -- a state that is numbered has been met before it is gone through
  met_before : (k : ℕ) → k < length (all_pairs p q) → k < length (pairs_met p q k)
  met_before k h = elim (cases_lt k (length (pairs_met p q k))) [
    | inl less ↦ less
    | inr more ↦
        let few = all_few in
        let same : length (all_pairs p q) ≡ length (pairs_met p q k)
        = ap length (all_met k more (omega (arith, h, few))) in
        absurd (omega (arith, same, h, more))
  ]

  pub all_closed : (k i : ℕ) → k < length (all_pairs p q) → i < p
      → is_child p q (pair_at q (all_pairs p q) k) i ≡ true
      → IsIn (all_pairs p q) (child_pair p q (pair_at q (all_pairs p q) k) i)
  all_closed k i h side e =
      let few = all_few in
      let less = met_before k h in
      let same : pair_at q (all_pairs p q) k ≡ pair_at q (pairs_met p q k) k
      = (all_grows k (omega (arith, h, few))).same k less in
      let child : is_child p q (pair_at q (pairs_met p q k) k) i ≡ true
      = subst (λ (x : Pair). is_child p q x i ≡ true) same e in
      let made : IsIn (pairs_met_at p q (pairs_met p q k) (pair_at q (pairs_met p q k) k) p)
      (child_pair p q (pair_at q (pairs_met p q k) k) i)
      = at_in p q (pairs_met p q k) (pair_at q (pairs_met p q k) k) p i side child in
      let there : IsIn (pairs_met p q (suc k)) (child_pair p q (pair_at q (pairs_met p q k) k) i)
      = subst (λ (xs : List Pair). IsIn xs (child_pair p q (pair_at q (pairs_met p q k) k) i))
      (sym (met_more p q shape k less)) made in
      let found = in_grows q (all_grows (suc k) (omega (arith, h, few)))
      (child_pair p q (pair_at q (pairs_met p q k) k) i) there in
      subst (λ (x : Pair). IsIn (all_pairs p q) (child_pair p q x i)) (sym same) found
