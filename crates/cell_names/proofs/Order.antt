-- The order of names, by its cases and as lists are compared.
use Rattle.std.proofs.Common.{◌≡◌, ℕ, ◌<◌, List, [], ◌∷◌, inl, inr, Ordering, Less, Equal, Greater, refl, sym, ◌∙◌, ap, subst}
use Rattle.std.specs.Prelude.{◌↔◌}
use Rattle.std.specs.Cmp.{nat_cmp_is}
use Rattle.std.specs.Cmp.Lexicographic.{slice_cmp}
use Rattle.std.specs.Ordering.{nat_cmp, ordering_then}
use Rattle.std.proofs.lemmas.Bool.{cases_order}
use Rattle.tree_model.specs.Names.{IsBefore, shorter, smaller, later}

-- the answer at a side and at the sides behind it
abbrev at_sides : List ℕ → List ℕ → Ordering → Ordering
at_sides m n first = ordering_then first (slice_cmp nat_cmp m n)

less : (i j : ℕ) (m n : List ℕ) → i < j → slice_cmp nat_cmp (i ∷ m) (j ∷ n) ≡ Less
less i j m n lt = ap (at_sides m n) (sym (nat_cmp_is i j Less lt))

equal : (i : ℕ) (m n : List ℕ) → slice_cmp nat_cmp (i ∷ m) (i ∷ n) ≡ slice_cmp nat_cmp m n
equal i m n = ap (at_sides m n) (sym (nat_cmp_is i i Equal refl))

greater : (i j : ℕ) (m n : List ℕ) → j < i → slice_cmp nat_cmp (i ∷ m) (j ∷ n) ≡ Greater
greater i j m n gt = ap (at_sides m n) (sym (nat_cmp_is i j Greater gt))

before_from : (m n : List ℕ) → slice_cmp nat_cmp m n ≡ Less → IsBefore m n
before_from [] [] is = absurd (cc)
before_from [] (j ∷ n) is = shorter j n
before_from (i ∷ m) [] is = absurd (cc)
before_from (i ∷ m) (j ∷ n) is = elim (cases_order i j) [
  | inl same ↦
      let rest : slice_cmp nat_cmp m n ≡ Less = sym (equal i m n) ∙ subst (λ (k : ℕ). slice_cmp nat_cmp (i ∷ m) (k ∷ n) ≡ Less) (sym same) is in
      subst (λ (k : ℕ). IsBefore (i ∷ m) (k ∷ n)) same (later i m n (before_from m n rest))
  | inr apart ↦ elim apart [
    | inl lt ↦ smaller i j m n lt
    | inr gt ↦ let other = greater i j m n gt in absurd (cc (is, other))
  ]
]

from_before : (m n : List ℕ) → IsBefore m n → slice_cmp nat_cmp m n ≡ Less
from_before m n (shorter i name) = refl
from_before m n (smaller i j u w lt) = less i j u w lt
from_before m n (later i u w before) = equal i u w ∙ from_before u w before

pub order_is : (m n : List ℕ) → (slice_cmp nat_cmp m n ≡ Less) ↔ IsBefore m n
order_is m n = (before_from m n, from_before m n)
