-- Tests, options and the least number that passes a test.
use Rattle.std.proofs.Common.{◌≡◌, ℕ, zero, suc, ◌<◌, ◌⊎◌, Bool, true, false, ◌&&◌, ◌||◌, nat_eq, Option, Some, None, IsSome, is_some, refl, sym, ap, ◌∙◌, inl, inr, arith}
use Rattle.std.proofs.lemmas.Bool.{cases_eq, eq-eqb, ne_eqb}
use Rattle.look_classes.specs.Tree.{same_dart}

pub cases : (b : Bool) → (b ≡ true) ⊎ (b ≡ false)
cases true = inl refl
cases false = inr refl

pub options : {A : Type 0} (o : Option A) → (o ≡ None) ⊎ ((x : A) × (o ≡ Some x))
options None = inl refl
options (Some x) = inr (x, refl)

pub both_hold : (a b : Bool) → (a && b) ≡ true → (a ≡ true) × (b ≡ true)
both_hold true b h = (refl, h)
both_hold false b h = absurd (cc)

pub hold_both : (a b : Bool) → a ≡ true → b ≡ true → (a && b) ≡ true
hold_both true b h k = k
hold_both false b h k = absurd (cc)

pub one_holds : (a b : Bool) → (a || b) ≡ true → (a ≡ true) ⊎ (b ≡ true)
one_holds true b h = inl refl
one_holds false b h = inr h

pub hold_one : (a b : Bool) → b ≡ true → (a || b) ≡ true
hold_one true b h = refl
hold_one false b h = h

pub hold_first : (a b : Bool) → a ≡ true → (a || b) ≡ true
hold_first true b h = refl
hold_first false b h = absurd (cc)

pub or_turned : (a b : Bool) → (a || b) ≡ (b || a)
or_turned true true = refl
or_turned true false = refl
or_turned false true = refl
or_turned false false = refl

pub same_tests : (a b : Bool) → (a ≡ true → b ≡ true) → (b ≡ true → a ≡ true) → a ≡ b
same_tests true b f g = sym (f refl)
same_tests false true f g = g refl
same_tests false false f g = refl

pub some_there : {A : Type 0} (o : Option A) → IsSome o → (x : A) × (o ≡ Some x)
some_there None h = absurd (cc)
some_there (Some x) h = (x, refl)

pub there_some : {A : Type 0} (o : Option A) (x : A) → o ≡ Some x → IsSome o
there_some None x e = absurd (cc)
there_some (Some y) x e = refl

pub test_some : {A : Type 0} (o : Option A) → is_some o ≡ true → IsSome o
test_some o h = h

pub some_test : {A : Type 0} (o : Option A) → IsSome o → is_some o ≡ true
some_test o h = h

pub same_dart_is : (d e : ℕ × ℕ) → same_dart d e ≡ true → d ≡ e
same_dart_is d e h = go (cases_eq d.0 e.0) (cases_eq d.1 e.1)
  where
    go : (d.0 ≡ e.0) ⊎ (d.0 ≡ e.0 → ⊥) → (d.1 ≡ e.1) ⊎ (d.1 ≡ e.1 → ⊥) → d ≡ e
    go (inl a) (inl b) = ap (λ x. (x, d.1)) a ∙ ap (λ y. (e.0, y)) b
    go (inr a) _ = let f : nat_eq d.0 e.0 ≡ false = ne_eqb d.0 e.0 a in absurd (cc (f, (both_hold (nat_eq d.0 e.0) (nat_eq d.1 e.1) h).0))
    go (inl _) (inr b) = let f : nat_eq d.1 e.1 ≡ false = ne_eqb d.1 e.1 b in absurd (cc (f, (both_hold (nat_eq d.0 e.0) (nat_eq d.1 e.1) h).1))

pub is_same_dart : (d e : ℕ × ℕ) → d ≡ e → same_dart d e ≡ true
is_same_dart d e h = hold_both (nat_eq d.0 e.0) (nat_eq d.1 e.1) (eq-eqb d.0 e.0 (ap (λ x. x.0) h)) (eq-eqb d.1 e.1 (ap (λ x. x.1) h))

-- the least number below n that passes a test, or none does
pub record IsLeast (p : ℕ → Bool) (n k : ℕ) : Type 0 where
  pub below : k < n
  pub holds : p k ≡ true
  pub before : (j : ℕ) → j < k → p j ≡ false

pub least : (p : ℕ → Bool) (n : ℕ) → ((k : ℕ) × IsLeast p n k) ⊎ ((k : ℕ) → k < n → p k ≡ false)
least p zero = inr (λ k lt. absurd (omega (arith, lt)))
least p (suc n) = go (least p n) (cases (p n))
  where
    go : ((k : ℕ) × IsLeast p n k) ⊎ ((k : ℕ) → k < n → p k ≡ false) → (p n ≡ true) ⊎ (p n ≡ false) → ((k : ℕ) × IsLeast p (suc n) k) ⊎ ((k : ℕ) → k < suc n → p k ≡ false)
    go (inl w) _ = let h = w.1 in let lt = h.below in inl (w.0, record { below = omega (arith, lt); holds = h.holds; before = h.before })
    go (inr none) (inl sure) = inl (n, record { below = omega arith; holds = sure; before = none })
    go (inr none) (inr fails) = inr (λ k lt. at k lt (cases_eq k n))
      where
        at : (k : ℕ) → k < suc n → (k ≡ n) ⊎ (k ≡ n → ⊥) → p k ≡ false
        at k lt (inl e) = ap p e ∙ fails
        at k lt (inr other) = none k (omega (arith, lt, other))
