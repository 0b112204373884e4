-- The list of the values of a function at 0, 1, .., n - 1.
use Rattle.std.proofs.Common.{◌≡◌, ℕ, zero, suc, ◌<◌, ◌≤◌, ◌⊎◌, inl, inr, [], ◌∷◌, length, get_or, refl, sym, ap, ◌∙◌, arith}
use Rattle.std.proofs.lemmas.Bool.{cases_lt}
use Rattle.std.proofs.lemmas.List.{get_or_append_left, get_or_push, length_push}
use Rattle.regular_maker.specs.Corners.{listed}

module _ {X : Type 0} (f : ℕ → X) where
  pub length-listed : (n : ℕ) → length (listed f n) ≡ n
  length-listed zero = refl
  length-listed (suc n) = omega (arith, length_push (listed f n) (f n), length-listed n)

  listed_step : (n i : ℕ) (d : X) → (i < n → get_or (listed f n) i d ≡ f i) → (i < n) ⊎ (n ≤ i)
      → i < suc n → get_or (listed f (suc n)) i d ≡ f i
  listed_step n i d before (inl less) h =
      get_or_append_left (listed f n) (f n ∷ []) d i (omega (arith, less, length-listed n))
      ∙ before less
  listed_step n i d before (inr more) h =
      let e : i ≡ n = omega arith in
      get_or_push (listed f n) (f n) d i (omega (arith, length-listed n, e)) ∙ ap f (sym e)

  pub listed_at : (n i : ℕ) (d : X) → i < n → get_or (listed f n) i d ≡ f i
  listed_at zero i d h = absurd (omega arith)
  listed_at (suc n) i d h = listed_step n i d (listed_at n i d) (cases_lt i n) h
