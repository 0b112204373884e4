-- Of more numbers than there are values two are alike.
use Rattle.std.proofs.Common.{◌≡◌, ◌≢◌, ℕ, zero, suc, ◌<◌, ◌⊎◌, inl, inr, sym, subst, arith}
use Rattle.std.proofs.lemmas.Bool.{cases_eq}
use Rattle.tile_model.proofs.Pigeonhole.{pigeonhole}

-- whether a value is among the first n
pub seek : (f : ℕ → ℕ) (y n : ℕ) → ((i : ℕ) × (i < n) × (f i ≡ y)) ⊎ ((i : ℕ) → i < n → f i ≢ y)
seek f y zero = inr (λ i l e. omega (arith, l))
seek f y (suc n) = go (cases_eq (f n) y) (seek f y n)
  where
    go : (f n ≡ y) ⊎ (f n ≢ y) → ((i : ℕ) × (i < n) × (f i ≡ y)) ⊎ ((i : ℕ) → i < n → f i ≢ y)
        → ((i : ℕ) × (i < suc n) × (f i ≡ y)) ⊎ ((i : ℕ) → i < suc n → f i ≢ y)
    go (inl e) _ = inl (n, omega arith, e)
    go (inr _) (inl (i, l, e)) = inl (i, omega (arith, l), e)
    go (inr d) (inr none) = inr (λ i l. last i l (cases_eq i n))
      where
        last : (i : ℕ) → i < suc n → (i ≡ n) ⊎ (i ≢ n) → f i ≢ y
        last i l (inl e) = subst (λ j. f j ≢ y) (sym e) d
        last i l (inr other) = none i (omega (arith, l, other))

-- two of the first m are alike
abbrev pub AreTwo : (ℕ → ℕ) → ℕ → Type 0
AreTwo f m = (i : ℕ) × (j : ℕ) × (i < j) × (j < m) × (f i ≡ f j)

abbrev AreApart : (ℕ → ℕ) → ℕ → Type 0
AreApart f m = (i j : ℕ) → i < m → j < m → f i ≡ f j → i ≡ j

two_or_none : (f : ℕ → ℕ) (m : ℕ) → AreTwo f m ⊎ AreApart f m
two_or_none f zero = inr (λ i j l k e. omega (arith, l))
two_or_none f (suc m) = go (two_or_none f m) (seek f (f m) m)
  where
    go : AreTwo f m ⊎ AreApart f m → ((i : ℕ) × (i < m) × (f i ≡ f m)) ⊎ ((i : ℕ) → i < m → f i ≢ f m)
        → AreTwo f (suc m) ⊎ AreApart f (suc m)
    go (inl (i, j, l, k, e)) _ = inl (i, j, l, omega (arith, k), e)
    go (inr _) (inl (i, l, e)) = inl (i, m, l, omega arith, e)
    go (inr apart) (inr none) = inr (λ i j l k e. both i j l k e (cases_eq i m) (cases_eq j m))
      where
        both : (i j : ℕ) → i < suc m → j < suc m → f i ≡ f j → (i ≡ m) ⊎ (i ≢ m) → (j ≡ m) ⊎ (j ≢ m) → i ≡ j
        both i j l k e (inl p) (inl q) = omega (arith, p, q)
        both i j l k e (inl p) (inr q) = absurd (none j (omega (arith, k, q)) (subst (λ x. f j ≡ f x) p (sym e)))
        both i j l k e (inr p) (inl q) = absurd (none i (omega (arith, l, p)) (subst (λ x. f i ≡ f x) q e))
        both i j l k e (inr p) (inr q) = apart i j (omega (arith, l, p)) (omega (arith, k, q)) e

pub two_alike : (f : ℕ → ℕ) (n m : ℕ) → n < m → ((i : ℕ) → i < m → f i < n) → AreTwo f m
two_alike f n m more below = go (two_or_none f m)
  where
    go : AreTwo f m ⊎ AreApart f m → AreTwo f m
    go (inl two) = two
    go (inr apart) = absurd (omega (arith, more, pigeonhole n m f below apart))
