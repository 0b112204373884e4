-- Numbers below m that go to different numbers below n are no more than n.
use Rattle.std.proofs.Common.{◌≡◌, ◌≢◌, ℕ, zero, suc, ◌<◌, ◌≤◌, ◌⊎◌, inl, inr, sym, ◌∙◌, arith}
use Rattle.std.proofs.lemmas.Bool.{cases_eq}

-- f, but what goes to n goes to the number `instead`
abbrev rerouted : (n instead x : ℕ) → (x ≡ n) ⊎ (x ≢ n) → ℕ
rerouted n instead x (inl _) = instead
rerouted n instead x (inr _) = x

-- where it stays below n, and stays different
rerouted_below :
    (n instead x : ℕ) (c : (x ≡ n) ⊎ (x ≢ n)) → x < suc n → instead < suc n → x ≢ instead →
    rerouted n instead x c < n
rerouted_below n instead x (inl e) lt below other =
    let differs : instead ≢ n = λ f. other (e ∙ sym f) in
    omega (arith, below, differs)
rerouted_below n instead x (inr not) lt below other = omega (arith, lt, not)

rerouted_one :
    (n instead x y : ℕ) (c : (x ≡ n) ⊎ (x ≢ n)) (d : (y ≡ n) ⊎ (y ≢ n)) →
    x ≢ instead → y ≢ instead → rerouted n instead x c ≡ rerouted n instead y d → x ≡ y
rerouted_one n instead x y (inl e) (inl f) _ _ _ = e ∙ sym f
rerouted_one n instead x y (inl e) (inr _) _ other same = absurd (other (sym same))
rerouted_one n instead x y (inr _) (inl f) other _ same = absurd (other same)
rerouted_one n instead x y (inr _) (inr _) _ _ same = same

pub pigeonhole :
    (n m : ℕ) (f : ℕ → ℕ) → ((i : ℕ) → i < m → f i < n) →
    ((i j : ℕ) → i < m → j < m → f i ≡ f j → i ≡ j) → m ≤ n
pigeonhole n zero f below one = omega arith
pigeonhole zero (suc m) f below one = absurd (omega (arith, below 0 (omega arith)))
pigeonhole (suc n) (suc m) f below one = omega (arith, pigeonhole n m without below_too one_too)
  where
    without : ℕ → ℕ
    without i = rerouted n (f m) (f i) (cases_eq (f i) n)

    other : (i : ℕ) → i < m → f i ≢ f m
    other i lt e = let same = one i m (omega (arith, lt)) (omega arith) e in omega (arith, lt, same)

    below_too : (i : ℕ) → i < m → without i < n
    below_too i lt =
        rerouted_below n (f m) (f i) (cases_eq (f i) n) (below i (omega (arith, lt)))
        (below m (omega arith)) (other i lt)

    one_too : (i j : ℕ) → i < m → j < m → without i ≡ without j → i ≡ j
    one_too i j lt less same =
        one i j (omega (arith, lt)) (omega (arith, less))
        (rerouted_one n (f m) (f i) (f j) (cases_eq (f i) n) (cases_eq (f j) n) (other i lt)
        (other j less) same)
