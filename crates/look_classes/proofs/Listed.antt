-- Lists with one more behind, and the list of the sides of all cells.
use Rattle.std.proofs.Common.{◌≡◌, ℕ, zero, suc, ◌+◌, ◌-◌, ◌*◌, ◌<◌, ◌≤◌, ◌⊎◌, List, [], ◌∷◌, ◌++◌, map, length, get_or, Option, refl, sym, ap, ◌∙◌, subst, inl, inr, arith}
use Rattle.std.proofs.lemmas.Bool.{cases_eq, cases_lt}
use Rattle.std.proofs.lemmas.List.{get_or_append_left, get_or_push, get_or-append-add, length_push, length-append, length-map}
use Rattle.coincidence.specs.Joined.{IsTable}
use Rattle.region_grower.specs.Regions.{RegionState}
use Rattle.look_classes.specs.Tree.{sides_of}
use Rattle.look_classes.specs.Classes.{below, sides_below}
use Rattle.look_classes.specs.Codes.{start_of, sides_at}
use Rattle.look_classes.specs.Numbers.{entry}
use Rattle.look_classes.proofs.Darts.{sides_wide}

-- what holds of each entry holds of each with one more behind
pub push_each : {A : Type 0} (xs : List A) (y d : A) (n : ℕ) (P : ℕ → A → Type 0) → length xs ≡ n → ((k : ℕ) → k < n → P k (get_or xs k d)) → P n y → (k : ℕ) → k < n + 1 → P k (get_or (xs ++ y ∷ []) k d)
push_each xs y d n P long before last k lt = go (cases_eq k n)
  where
    go : (k ≡ n) ⊎ (k ≡ n → ⊥) → P k (get_or (xs ++ y ∷ []) k d)
    go (inl e) = subst (λ i. P i (get_or (xs ++ y ∷ []) i d)) (sym e) (subst (P n) (sym (get_or_push xs y d n long)) last)
    go (inr other) = subst (P k) (sym (get_or_append_left xs (y ∷ []) d k (omega (arith, lt, other, long)))) (before k (omega (arith, lt, other)))

pub below_next : (n : ℕ) → below (suc n) ≡ below n ++ n ∷ []
unfolding below
below_next n = refl

pub below_none : below 0 ≡ []
unfolding below
below_none = refl

pub length_below : (n : ℕ) → length (below n) ≡ n
length_below zero = ap length below_none
length_below (suc n) = ap length (below_next n) ∙ (length_push (below n) n ∙ omega (arith, length_below n))

pub get_below : (n i d : ℕ) → i < n → get_or (below n) i d ≡ i
get_below zero i d lt = absurd (omega (arith, lt))
get_below (suc n) i d lt = go (λ less. get_below n i d less) (cases_eq i n)
  where
    go : (i < n → get_or (below n) i d ≡ i) → (i ≡ n) ⊎ (i ≡ n → ⊥) → get_or (below (suc n)) i d ≡ i
    go before (inl e) = ap (λ xs. get_or xs i d) (below_next n) ∙ (get_or_push (below n) n d i (length_below n ∙ sym e) ∙ sym e)
    go before (inr other) = ap (λ xs. get_or xs i d) (below_next n) ∙ (get_or_append_left (below n) (n ∷ []) d i (omega (arith, lt, other, length_below n)) ∙ before (omega (arith, lt, other)))

-- an entry of a list made by a function
pub entry_map : {A B : Type 0} (f : A → Option B) (xs : List A) (i : ℕ) (d : A) → i < length xs → entry (map f xs) i ≡ f (get_or xs i d)
entry_map f [] i d lt = absurd (omega (arith, lt))
entry_map f (x ∷ xs) zero d lt = refl
entry_map f (x ∷ xs) (suc i) d lt = entry_map f xs i d (omega (arith, lt))

pub sides_next : (c : ℕ) (r : RegionState) → sides_below (suc c) r ≡ sides_below c r ++ sides_at r c
unfolding sides_below
sides_next c r = refl

pub sides_none : (r : RegionState) → sides_below 0 r ≡ []
unfolding sides_below
sides_none r = refl

length_sides : (r : RegionState) (c : ℕ) → length (sides_at r c) ≡ sides_of r c
length_sides r c = length-map (below (sides_of r c)) (λ i. (c, i)) ∙ length_below (sides_of r c)

get_sides : (c : ℕ) (xs : List ℕ) (i : ℕ) (d : ℕ × ℕ) (e : ℕ) → i < length xs → get_or (map (λ (k : ℕ). (c, k)) xs) i d ≡ (c, get_or xs i e)
get_sides c [] i d e lt = absurd (omega (arith, lt))
get_sides c (x ∷ xs) zero d e lt = refl
get_sides c (x ∷ xs) (suc i) d e lt = get_sides c xs i d e (omega (arith, lt))

module _ (r : RegionState) where
  pub start_next : (c : ℕ) → start_of r (suc c) ≡ start_of r c + sides_of r c
  start_next c = ap length (sides_next c r) ∙ (length-append (sides_below c r) (sides_at r c) ∙ ap (λ n. start_of r c + n) (length_sides r c))

  pub start_none : start_of r 0 ≡ 0
  start_none = ap length (sides_none r)

  -- the sides of a cell stand from its start on
  pub start_at : (n c i : ℕ) (d : ℕ × ℕ) → c < n → i < sides_of r c → (start_of r c + i < start_of r n) × (get_or (sides_below n r) (start_of r c + i) d ≡ (c, i))
  start_at zero c i d lt low = absurd (omega (arith, lt))
  start_at (suc n) c i d lt low = go (λ less. start_at n c i d less low) (cases_eq c n)
    where
      go : (c < n → (start_of r c + i < start_of r n) × (get_or (sides_below n r) (start_of r c + i) d ≡ (c, i))) → (c ≡ n) ⊎ (c ≡ n → ⊥) → (start_of r c + i < start_of r (suc n)) × (get_or (sides_below (suc n) r) (start_of r c + i) d ≡ (c, i))
      go before (inl e) =
          let more = start_next n in
          let wide : sides_of r c ≡ sides_of r n = ap (sides_of r) e in
          let same : start_of r c ≡ start_of r n = ap (start_of r) e in (
            omega (arith, more, wide, same, low),
            ap (λ m. get_or (sides_below (suc n) r) (m + i) d) same
                ∙ (ap (λ xs. get_or xs (start_of r n + i) d) (sides_next n r)
                ∙ (get_or-append-add (sides_below n r) (sides_at r n) i d
                ∙ (get_sides n (below (sides_of r n)) i d 0 (omega (arith, low, wide, length_below (sides_of r n)))
                ∙ (ap (λ k. (n, k)) (get_below (sides_of r n) i 0 (omega (arith, low, wide))) ∙ ap (λ k. (k, i)) (sym e))))),
          )
      go before (inr other) =
          let rest = before (omega (arith, lt, other)) in
          let more = start_next n in (
            omega (arith, more, rest.0),
            ap (λ xs. get_or xs (start_of r c + i) d) (sides_next n r) ∙ (get_or_append_left (sides_below n r) (sides_at r n) d (start_of r c + i) rest.0 ∙ rest.1),
          )

  -- each entry is a side of a cell
  pub side_at : (n k : ℕ) (d : ℕ × ℕ) → k < start_of r n → (c : ℕ) × (i : ℕ) × (c < n) × (i < sides_of r c) × (k ≡ start_of r c + i)
  side_at zero k d lt = absurd (omega (arith, lt, start_none))
  side_at (suc n) k d lt = go (λ less. side_at n k d less) (cases_lt k (start_of r n))
    where
      go : (k < start_of r n → (c : ℕ) × (i : ℕ) × (c < n) × (i < sides_of r c) × (k ≡ start_of r c + i)) → (k < start_of r n) ⊎ (start_of r n ≤ k) → (c : ℕ) × (i : ℕ) × (c < suc n) × (i < sides_of r c) × (k ≡ start_of r c + i)
      go before (inl less) = let w = before less in (w.0, w.1, omega (arith, w.2), w.3, w.4)
      go before (inr le) = let more = start_next n in let i = k - start_of r n in (n, k - start_of r n, omega arith, omega (arith, le, lt, more), omega (arith, le))

  module _ (table : IsTable r.table) where
    pub starts_few : (c : ℕ) → c ≤ length r.table.origins → start_of r c ≤ 64 * c
    starts_few zero le = omega (arith, start_none)
    starts_few (suc c) le =
        let rest = starts_few c (omega (arith, le)) in
        let wide = sides_wide r table c (omega (arith, le)) in
        omega (arith, rest, wide.1, start_next c)

-- going back round a corner
