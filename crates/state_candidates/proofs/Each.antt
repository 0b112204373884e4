-- Lists of what is there for each number below a bound.
use Rattle.std.proofs.Common.{◌≡◌, ℕ, zero, suc, ◌+◌, ◌<◌, ◌≤◌, List, [], ◌∷◌, ◌++◌, Option, Some, None, refl, sym, ap, ap₂, ◌∙◌, subst, inl, inr, arith, add-one}
use Rattle.std.proofs.Math.Nat.{eq-or-lt_of_le}
use Rattle.look_classes.specs.Looks.{both, each_below}

-- one more
pub each_more : {A : Type 0} (f : ℕ → Option A) (n : ℕ) (xs : List A) (x : A) → each_below n f ≡ Some xs → f n ≡ Some x → each_below (n + 1) f ≡ Some (xs ++ x ∷ [])
unfolding each_below
each_more {A} f n xs x all one =
    let next : n + 1 ≡ suc n = add-one n in
    subst (λ k. each_below k f ≡ Some (xs ++ x ∷ [])) (sym next) (ap₂ (both (λ (ys : List A) y. ys ++ y ∷ [])) all one)

pub each_none : {A : Type 0} (f : ℕ → Option A) → each_below 0 f ≡ Some []
unfolding each_below
each_none f = refl

pub both_none : {A B C : Type 0} (f : A → B → C) (o : Option A) → both f o None ≡ None
both_none f None = refl
both_none f (Some x) = refl

-- one that is not there
pub each_missing : {A : Type 0} (f : ℕ → Option A) (n j : ℕ) → j < n → f j ≡ None → each_below n f ≡ None
unfolding each_below
each_missing f zero j below missing = absurd (omega (arith, below))
each_missing {A} f (suc n) j below missing = elim (eq-or-lt_of_le (le j n below)) [
  | inl is ↦ ap (both (λ (ys : List A) y. ys ++ y ∷ []) (each_below n f)) (subst (λ i. f i ≡ None) is missing) ∙ both_none (λ (ys : List A) y. ys ++ y ∷ []) (each_below n f)
  | inr less ↦ ap (λ o. both (λ (ys : List A) y. ys ++ y ∷ []) o (f n)) (each_missing f n j less missing)
]
  where
    le : (j n : ℕ) → j < suc n → j ≤ n
    le j n below = omega arith
