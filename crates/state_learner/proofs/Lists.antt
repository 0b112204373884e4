-- Lists of which one element is set, or that are one longer.
use Rattle.std.proofs.Common.{◌≡◌, ◌≢◌, ◌⊎◌, inl, inr, ℕ, zero, suc, ◌<◌, ◌≤◌, List, [], ◌∷◌, ◌++◌, length, set, sum_by, Some, refl, sym, ap, arith}
use Rattle.std.specs.Prelude.{slice_get}
use Rattle.std.specs.Option.{unwrap_or}
use Rattle.std.proofs.lemmas.List.Sums.{sum_by-cons}

-- what is there is one thing
some_same : {A : Type 0} (x y : A) → Some x ≡ Some y → y ≡ x
some_same x y is = sym (ap (λ o. unwrap_or o x) is)

-- of a list of which one element is set, an element is that one or one that was there
pub get_set : {A : Type 0} (xs : List A) (i k : ℕ) (y x : A) → i < length xs → slice_get (set xs i y) k ≡ Some x
    → ((k ≡ i) × (x ≡ y)) ⊎ ((k ≢ i) × (slice_get xs k ≡ Some x))
get_set [] i k y x inside is = absurd (omega (arith, inside))
get_set (z ∷ zs) zero zero y x inside is = inl (refl, some_same y x is)
get_set (z ∷ zs) zero (suc k) y x inside is = inr (λ e. absurd (omega (arith, e)), is)
get_set (z ∷ zs) (suc i) zero y x inside is = inr (λ e. absurd (omega (arith, e)), is)
get_set (z ∷ zs) (suc i) (suc k) y x inside is = elim (get_set zs i k y x (omega (arith, inside)) is) [
  | inl h ↦ inl (omega (arith, h.0), h.1)
  | inr h ↦ inr (λ e. h.0 (omega (arith, e)), h.1)
]

-- of a list that is one longer, an element is the new one or one that was there
pub get_push : {A : Type 0} (xs : List A) (k : ℕ) (y x : A) → slice_get (xs ++ y ∷ []) k ≡ Some x
    → ((k ≡ length xs) × (x ≡ y)) ⊎ (slice_get xs k ≡ Some x)
get_push [] zero y x is = inl (refl, some_same y x is)
get_push [] (suc k) y x is = absurd (cc)
get_push (z ∷ zs) zero y x is = inr is
get_push (z ∷ zs) (suc k) y x is = elim (get_push zs k y x is) [
  | inl h ↦ inl (omega (arith, h.0), h.1)
  | inr h ↦ inr h
]

-- no part is more than the sum
pub part_at_most : {A : Type 0} (f : A → ℕ) (xs : List A) (k : ℕ) (x : A) → slice_get xs k ≡ Some x → f x ≤ sum_by f xs
part_at_most f [] k x is = absurd (cc)
part_at_most f (z ∷ zs) zero x is = omega (arith, sum_by-cons f z zs, ap f (some_same z x is))
part_at_most f (z ∷ zs) (suc k) x is = omega (arith, sum_by-cons f z zs, part_at_most f zs k x is)

-- a sum of ones at most is no more than the length
pub ones_at_most : {A : Type 0} (f : A → ℕ) → ((x : A) → f x ≤ 1) → (xs : List A) → sum_by f xs ≤ length xs
ones_at_most f one [] = omega arith
ones_at_most f one (x ∷ xs) = omega (arith, one x, sum_by-cons f x xs, ones_at_most f one xs)
