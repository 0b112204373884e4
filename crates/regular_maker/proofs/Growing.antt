-- The list of the pairs that are met: it grows at its end, has no doubles, holds pairs of states
-- alone, and holds the pair of each child that was met.
use Rattle.std.proofs.Common.{◌≡◌, ◌≢◌, ℕ, zero, suc, ◌+◌, ◌<◌, ◌≤◌, ◌⊎◌, inl, inr, List, [], ◌∷◌, ◌++◌, length, get_or, refl, sym, ap, ◌∙◌, subst, arith, true, false}
use Rattle.std.specs.Prelude.{nat_lt}
use Rattle.std.proofs.lemmas.Bool.{cases_lt, cases_Bool, lt-ltb, le-ltb, ltb-true, and_parts, and_from}
use Rattle.std.proofs.lemmas.List.{get_or_append_left, get_or_push, length_push}
use Rattle.regular_maker.specs.Pairs.{IsPair}
use Rattle.regular_maker.specs.States.{rights, lefts, is_child, child_pair, child_pairs, first_pair}
use Rattle.regular_maker.specs.Automaton.{index_in, with_pair, with_pairs, pair_at, pairs_met}
use Rattle.regular_maker.specs.declared.symbol.Pair.{Pair}
use Rattle.regular_maker.proofs.Shapes.{IsShape}
use Rattle.regular_maker.proofs.Children.{first_is_pair, child_is_pair}
use Rattle.regular_maker.proofs.Numbers.{index_at, index_low}

-- each entry of a list stands at the same place in the other
pub record Grows (q : ℕ) (xs ys : List Pair) : Type 0 where
  pub longer : length xs ≤ length ys
  pub same : (k : ℕ) → k < length xs → pair_at q ys k ≡ pair_at q xs k

-- a pair is in a list
abbrev pub IsIn : List Pair → Pair → Type 0
IsIn xs x = index_in xs x < length xs

-- the entries are pairs of states, and no two are the same
pub record IsList (p q : ℕ) (xs : List Pair) : Type 0 where
  pub pairs : (k : ℕ) → k < length xs → IsPair p q (pair_at q xs k)
  pub distinct : (i j : ℕ) → i < j → j < length xs → pair_at q xs i ≢ pair_at q xs j

module _ (q : ℕ) where
  pub grows_self : (xs : List Pair) → Grows q xs xs
  grows_self xs = record { longer = omega arith; same = λ k h. refl }

  pub grows_on : {xs ys zs : List Pair} → Grows q xs ys → Grows q ys zs → Grows q xs zs
  grows_on f g = record {
    longer = omega (arith, f.longer, g.longer);
    same = λ k h. g.same k (omega (arith, f.longer, h)) ∙ f.same k h;
  }

  -- the index of a pair that is there leads to it
  pub in_at : (xs : List Pair) (x : Pair) → IsIn xs x → pair_at q xs (index_in xs x) ≡ x
  unfolding pair_at
  in_at xs x h = index_at (first_pair q) xs x h

  pub in_from : (xs : List Pair) (x : Pair) (k : ℕ) → k < length xs → pair_at q xs k ≡ x → IsIn xs x
  unfolding pair_at
  in_from xs x k h e = omega (arith, index_low (first_pair q) xs x k h e, h)

  pub in_grows : {xs ys : List Pair} → Grows q xs ys → (x : Pair) → IsIn xs x → IsIn ys x
  in_grows {xs} {ys} g x h =
      in_from ys x (index_in xs x) (omega (arith, g.longer, h))
      (g.same (index_in xs x) h ∙ in_at xs x h)

  pub with_old : (xs : List Pair) (x : Pair) → IsIn xs x → with_pair xs x ≡ xs
  unfolding with_pair
  with_old xs x h = rw (lt-ltb (index_in xs x) (length xs) h) refl

  with_new : (xs : List Pair) (x : Pair) → length xs ≤ index_in xs x → with_pair xs x ≡ xs ++ x ∷ []
  unfolding with_pair
  with_new xs x h = rw (le-ltb (index_in xs x) (length xs) h) refl

  at_push : (xs : List Pair) (x : Pair) → pair_at q (xs ++ x ∷ []) (length xs) ≡ x
  unfolding pair_at
  at_push xs x = get_or_push xs x (first_pair q) (length xs) refl

  before_push : (xs : List Pair) (x : Pair) (k : ℕ) → k < length xs
      → pair_at q (xs ++ x ∷ []) k ≡ pair_at q xs k
  unfolding pair_at
  before_push xs x k h = get_or_append_left xs (x ∷ []) (first_pair q) k h

  push_grows : (xs : List Pair) (x : Pair) → Grows q xs (xs ++ x ∷ [])
  push_grows xs x = record { longer = omega (arith, length_push xs x); same = before_push xs x }

  pub with_grows : (xs : List Pair) (x : Pair) → Grows q xs (with_pair xs x)
  with_grows xs x = elim (cases_lt (index_in xs x) (length xs)) [
    | inl old ↦ subst (Grows q xs) (sym (with_old xs x old)) (grows_self xs)
    | inr new ↦ subst (Grows q xs) (sym (with_new xs x new)) (push_grows xs x)
  ]

  pub with_in : (xs : List Pair) (x : Pair) → IsIn (with_pair xs x) x
  with_in xs x = elim (cases_lt (index_in xs x) (length xs)) [
    | inl old ↦ subst (λ (ys : List Pair). IsIn ys x) (sym (with_old xs x old)) old
    | inr new ↦ subst (λ (ys : List Pair). IsIn ys x) (sym (with_new xs x new))
        (in_from (xs ++ x ∷ []) x (length xs) (omega (arith, length_push xs x)) (at_push xs x))
  ]

-- one more pair behind those that are added
pub with_push : (ps xs : List Pair) (x : Pair)
    → with_pairs ps (xs ++ x ∷ []) ≡ with_pair (with_pairs ps xs) x
unfolding with_pairs
with_push ps [] x = refl
with_push ps (y ∷ xs) x = with_push (with_pair ps y) xs x

module _ (p q : ℕ) where
  push_pairs : (xs : List Pair) (x : Pair) → IsList p q xs → IsPair p q x → (k : ℕ)
      → (k < length xs) ⊎ (length xs ≤ k)
      → k < length (xs ++ x ∷ []) → IsPair p q (pair_at q (xs ++ x ∷ []) k)
  push_pairs xs x list pair k (inl less) h
      = subst (IsPair p q) (sym (before_push q xs x k less)) (list.pairs k less)
  push_pairs xs x list pair k (inr more) h =
      let e : length xs ≡ k = omega (arith, length_push xs x, h, more) in
      subst (λ j. IsPair p q (pair_at q (xs ++ x ∷ []) j)) e
      (subst (IsPair p q) (sym (at_push q xs x)) pair)

  push_distinct : (xs : List Pair) (x : Pair) → IsList p q xs → length xs ≤ index_in xs x
      → (i j : ℕ) → (j < length xs) ⊎ (length xs ≤ j)
      → i < j → j < length (xs ++ x ∷ []) → pair_at q (xs ++ x ∷ []) i ≢ pair_at q (xs ++ x ∷ []) j
  push_distinct xs x list new i j (inl less) h g = λ e.
      list.distinct i j h less
      (sym (before_push q xs x i (omega (arith, h, less))) ∙ e ∙ before_push q xs x j less)
  push_distinct xs x list new i j (inr more) h g = λ e.
      let last : j ≡ length xs = omega (arith, length_push xs x, g, more) in
      let less : i < length xs = omega (arith, h, last) in
      let there = sym (before_push q xs x i less) ∙ e ∙ ap (pair_at q (xs ++ x ∷ [])) last
      ∙ at_push q xs x in
      let found = in_from q xs x i less there in
      absurd (omega (arith, found, new))

  pub with_list : (xs : List Pair) (x : Pair) → IsList p q xs → IsPair p q x
      → IsList p q (with_pair xs x)
  with_list xs x list pair = elim (cases_lt (index_in xs x) (length xs)) [
    | inl old ↦ subst (IsList p q) (sym (with_old q xs x old)) list
    | inr new ↦ subst (IsList p q) (sym (with_new q xs x new)) (record {
      pairs = λ k h. push_pairs xs x list pair k (cases_lt k (length xs)) h;
      distinct = λ i j h g. push_distinct xs x list new i j (cases_lt j (length xs)) h g;
    })
  ]

  child_parts : (x : Pair) (i : ℕ) → is_child p q x i ≡ true
      → (rights p q x < i) × (i + lefts p q x < p)
  unfolding is_child
  child_parts x i e =
      let parts = and_parts (nat_lt (rights p q x) i) (nat_lt (i + lefts p q x) p) e in
      (ltb-true (rights p q x) i parts.0, ltb-true (i + lefts p q x) p parts.1)

  pub child_from : (x : Pair) (i : ℕ) → rights p q x < i → i + lefts p q x < p
      → is_child p q x i ≡ true
  unfolding is_child
  child_from x i h g =
      and_from (nat_lt (rights p q x) i) (nat_lt (i + lefts p q x) p) (lt-ltb (rights p q x) i h)
      (lt-ltb (i + lefts p q x) p g)

  -- a list of pairs, and those met at the sides below side n of the state of a pair
  abbrev pub pairs_met_at : List Pair → Pair → ℕ → List Pair
  pairs_met_at xs x n = with_pairs xs (child_pairs p q x n)

  at_child : (xs : List Pair) (x : Pair) (i : ℕ) → is_child p q x i ≡ true
      → pairs_met_at xs x (suc i) ≡ with_pair (pairs_met_at xs x i) (child_pair p q x i)
  unfolding child_pairs
  at_child xs x i e = rw e (with_push xs (child_pairs p q x i) (child_pair p q x i))

  at_other : (xs : List Pair) (x : Pair) (i : ℕ) → is_child p q x i ≡ false
      → pairs_met_at xs x (suc i) ≡ pairs_met_at xs x i
  unfolding child_pairs
  at_other xs x i e = rw e refl

  at_grows_step : (xs : List Pair) (x : Pair) (n : ℕ)
      → (is_child p q x n ≡ true) ⊎ (is_child p q x n ≡ false)
      → Grows q (pairs_met_at xs x n) (pairs_met_at xs x (suc n))
  at_grows_step xs x n (inl e)
      = subst (Grows q (pairs_met_at xs x n)) (sym (at_child xs x n e))
      (with_grows q (pairs_met_at xs x n) (child_pair p q x n))
  at_grows_step xs x n (inr e)
      = subst (Grows q (pairs_met_at xs x n)) (sym (at_other xs x n e))
      (grows_self q (pairs_met_at xs x n))

  pub at_grows : (xs : List Pair) (x : Pair) (n : ℕ) → Grows q xs (pairs_met_at xs x n)
  unfolding child_pairs with_pairs
  at_grows xs x zero = grows_self q xs
  at_grows xs x (suc n)
      = grows_on q (at_grows xs x n) (at_grows_step xs x n (cases_Bool (is_child p q x n)))

  at_in_step : (xs : List Pair) (x : Pair) (n i : ℕ)
      → (i < n → IsIn (pairs_met_at xs x n) (child_pair p q x i))
      → (i < n) ⊎ (n ≤ i) → i < suc n → is_child p q x i ≡ true
      → IsIn (pairs_met_at xs x (suc n)) (child_pair p q x i)
  at_in_step xs x n i before (inl less) h e =
      in_grows q (at_grows_step xs x n (cases_Bool (is_child p q x n))) (child_pair p q x i)
      (before less)
  at_in_step xs x n i before (inr more) h e =
      let same : n ≡ i = omega (arith, h, more) in
      let made : IsIn (pairs_met_at xs x (suc i)) (child_pair p q x i)
      = subst (λ (ys : List Pair). IsIn ys (child_pair p q x i)) (sym (at_child xs x i e))
      (with_in q (pairs_met_at xs x i) (child_pair p q x i)) in
      subst (λ m. IsIn (pairs_met_at xs x (suc m)) (child_pair p q x i)) (sym same) made

  -- the pair of each child is met
  pub at_in : (xs : List Pair) (x : Pair) (n i : ℕ) → i < n → is_child p q x i ≡ true
      → IsIn (pairs_met_at xs x n) (child_pair p q x i)
  at_in xs x zero i h e = absurd (omega arith)
  at_in xs x (suc n) i h e = at_in_step xs x n i (λ less. at_in xs x n i less e) (cases_lt i n) h e

module _ (p q : ℕ) (shape : IsShape p q) where
  at_list_step : (xs : List Pair) (x : Pair) (n : ℕ) → IsPair p q x
      → IsList p q (pairs_met_at p q xs x n)
      → (is_child p q x n ≡ true) ⊎ (is_child p q x n ≡ false)
      → IsList p q (pairs_met_at p q xs x (suc n))
  at_list_step xs x n pair before (inl e) =
      let parts = child_parts p q x n e in
      subst (IsList p q) (sym (at_child p q xs x n e))
      (with_list p q (pairs_met_at p q xs x n) (child_pair p q x n) before
      (child_is_pair p q shape x pair n parts.0 parts.1))
  at_list_step xs x n pair before (inr e) = subst (IsList p q) (sym (at_other p q xs x n e)) before

  pub at_list : (xs : List Pair) (x : Pair) (n : ℕ) → IsPair p q x → IsList p q xs
      → IsList p q (pairs_met_at p q xs x n)
  unfolding child_pairs with_pairs
  at_list xs x zero pair list = list
  at_list xs x (suc n) pair list
      = at_list_step xs x n pair (at_list xs x n pair list) (cases_Bool (is_child p q x n))

  pub met_more : (n : ℕ) → n < length (pairs_met p q n)
      → pairs_met p q (suc n) ≡ pairs_met_at p q (pairs_met p q n) (pair_at q (pairs_met p q n) n) p
  unfolding pairs_met
  met_more n h = rw (lt-ltb n (length (pairs_met p q n)) h) refl

  pub met_done : (n : ℕ) → length (pairs_met p q n) ≤ n → pairs_met p q (suc n) ≡ pairs_met p q n
  unfolding pairs_met
  met_done n h = rw (le-ltb n (length (pairs_met p q n)) h) refl

  met_grows_step : (n : ℕ) → (n < length (pairs_met p q n)) ⊎ (length (pairs_met p q n) ≤ n)
      → Grows q (pairs_met p q n) (pairs_met p q (suc n))
  met_grows_step n (inl less)
      = subst (Grows q (pairs_met p q n)) (sym (met_more n less))
      (at_grows p q (pairs_met p q n) (pair_at q (pairs_met p q n) n) p)
  met_grows_step n (inr more)
      = subst (Grows q (pairs_met p q n)) (sym (met_done n more)) (grows_self q (pairs_met p q n))

  pub met_grows : (n k : ℕ) → Grows q (pairs_met p q n) (pairs_met p q (k + n))
  met_grows n zero = let e : n ≡ 0 + n
      = omega arith in subst (λ m. Grows q (pairs_met p q n) (pairs_met p q m)) e
      (grows_self q (pairs_met p q n))
  met_grows n (suc k) =
      let e : suc (k + n) ≡ suc k + n = omega arith in
      subst (λ m. Grows q (pairs_met p q n) (pairs_met p q m)) e
      (grows_on q (met_grows n k)
      (met_grows_step (k + n) (cases_lt (k + n) (length (pairs_met p q (k + n))))))

  first_list : IsList p q (first_pair q ∷ [])
  unfolding pair_at
  first_list = record {
    pairs = λ k h. let e : 0 ≡ k
        = omega arith in subst (λ j. IsPair p q (get_or (first_pair q ∷ []) j (first_pair q))) e
        (first_is_pair p q shape);
    distinct = λ i j h g. absurd (omega arith);
  }

  met_list_step : (n : ℕ) → IsList p q (pairs_met p q n)
      → (n < length (pairs_met p q n)) ⊎ (length (pairs_met p q n) ≤ n)
      → IsList p q (pairs_met p q (suc n))
  met_list_step n before (inl less) =
      subst (IsList p q) (sym (met_more n less))
      (at_list (pairs_met p q n) (pair_at q (pairs_met p q n) n) p (before.pairs n less) before)
  met_list_step n before (inr more) = subst (IsList p q) (sym (met_done n more)) before

  pub met_list : (n : ℕ) → IsList p q (pairs_met p q n)
  unfolding pairs_met
  met_list zero = first_list
  met_list (suc n) = met_list_step n (met_list n) (cases_lt n (length (pairs_met p q n)))
