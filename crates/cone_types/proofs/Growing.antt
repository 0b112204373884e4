-- A partition by one more entry.
use Rattle.std.proofs.Common.{◌≡◌, ℕ, ◌+◌, ◌<◌, ◌≤◌, List, [], ◌∷◌, ◌++◌, ◌⊎◌, inl, inr, length, length-append, subst, sym, ◌∙◌, ap, arith}
use Rattle.std.proofs.lemmas.Bool.{cases_lt}
use Rattle.std.proofs.lemmas.List.{get_or_append_left, get_or_push}
use Rattle.cone_types.specs.Partitions.{class_of, IsPartition}

pub no_entries : (apart : ℕ) → IsPartition 0 apart []
no_entries apart = record {
  entries_all = omega arith;
  low = λ i under. omega (arith, under);
  alone = λ i under _. omega (arith, under);
}

-- the class of an entry before, and that of the last one
class-before : (classes : List ℕ) (class i : ℕ) → i < length classes
    → class_of (classes ++ class ∷ []) i ≡ class_of classes i
class-before classes class i under = get_or_append_left classes (class ∷ []) 0 i under

class-last : (classes : List ℕ) (class i : ℕ) → length classes ≡ i
    → class_of (classes ++ class ∷ []) i ≡ class
class-last classes class i is = get_or_push classes class 0 i is

-- what holds of an entry before and of the last one holds of each
either : (entry : ℕ) (P : ℕ → Type 0) → ((i : ℕ) → i < entry → P i) → P entry
    → (i : ℕ) → i < entry + 1 → P i
either entry P before last i under = go (cases_lt i entry)
  where
    go : (i < entry) ⊎ (entry ≤ i) → P i
    go (inl less) = before i less
    go (inr least) = subst P (omega (arith, under, least)) last

pub one_more : (entry apart : ℕ) (classes : List ℕ) (class : ℕ)
    → IsPartition entry apart classes → class ≤ entry → (entry < apart → class ≡ entry)
    → IsPartition (entry + 1) apart (classes ++ class ∷ [])
one_more entry apart classes class p low same = record {
  entries_all = longer;
  low = λ i under. either entry (λ i. class_of (classes ++ class ∷ []) i ≤ i)
      (λ i under. subst (λ x. x ≤ i) (sym (before i under)) (p.low i (in_range i under)))
      (subst (λ x. x ≤ entry) (sym last) low) i (subst (λ n. i < n) longer under);
  alone = either entry (λ i. i < apart → class_of (classes ++ class ∷ []) i ≡ i)
      (λ i under in_apart. before i under ∙ p.alone i under in_apart)
      (λ in_apart. last ∙ same in_apart);
}
  where
    longer : length (classes ++ class ∷ []) ≡ entry + 1
    longer = length-append classes (class ∷ []) ∙ ap (λ n. n + 1) p.entries_all

    in_range : (i : ℕ) → i < entry → i < length classes
    in_range i under = subst (λ n. i < n) (sym p.entries_all) under

    before : (i : ℕ) → i < entry → class_of (classes ++ class ∷ []) i ≡ class_of classes i
    before i under = class-before classes class i (subst (λ n. i < n) (sym p.entries_all) under)

    last : class_of (classes ++ class ∷ []) entry ≡ class
    last = class-last classes class entry p.entries_all
