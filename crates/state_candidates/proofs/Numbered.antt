-- Numbers in order of first sight.
use Rattle.std.proofs.Common.{◌≡◌, ℕ, zero, suc, ◌+◌, ◌<◌, ◌≤◌, List, length, Option, Some, None, IfSome, ◌⊎◌, inl, inr, refl, sym, ap, ◌∙◌, subst, arith}
use Rattle.std.proofs.Math.Nat.{eq-or-lt_of_le}
use Rattle.std.proofs.lemmas.Bool.{cases_lt, cases_eq}
use Rattle.std.proofs.lemmas.Option.{same_Some}
use Rattle.std.proofs.lemmas.List.{same_lists, get_or_default, get_or_past}
use Rattle.region_grower.specs.Regions.{RegionState}
use Rattle.look_classes.specs.Classes.{ClassLists, AreClasses, cell_looks, corner_looks}
use Rattle.look_classes.specs.Numbers.{entry, AreNumbers}
use Rattle.state_candidates.specs.Reading.{IsFirstWith}

last_of : {P : Type 0} (i n : ℕ) → i < suc n → (i ≡ n → P) → (i < n → P) → P
last_of i n less at below = let le : i ≤ n = omega arith in elim (eq-or-lt_of_le le) [ inl same ↦ at same | inr lower ↦ below lower ]

-- a number is below their count
pub few_numbers : {A : Type 0} (most : ℕ) (met : List (Option A)) (numbers : List (Option ℕ)) (count : ℕ) → AreNumbers met numbers count
    → (f : ℕ) → f + count ≤ most → (i : ℕ) (o : Option ℕ) → o ≡ entry numbers i → IfSome o (λ m. f + m ≤ most)
few_numbers most met numbers count ok f few i None is = tt
few_numbers most met numbers count ok f few i (Some m) is = let below : m < count = (ok.counted m).1 (i, sym is) in omega (arith, below, few)

-- the first entry with a number
pub first_with : (numbers : List (Option ℕ)) (m bound i : ℕ) → i < bound → entry numbers i ≡ Some m → (j : ℕ) × IsFirstWith numbers m j
first_with numbers m zero i below is = absurd (omega (arith, below))
first_with numbers m (suc bound) i below is = elim (any_before i) [
  | inl some ↦ first_with numbers m bound some.0 (omega (arith, some.1, below)) some.2
  | inr none ↦ (i, record { here = is; before = none })
]
  where
    any_before : (n : ℕ) → ((j : ℕ) × (j < n) × (entry numbers j ≡ Some m)) ⊎ ((j : ℕ) → j < n → ¬ (entry numbers j ≡ Some m))
    any_before zero = inr (λ j less. absurd (omega (arith, less)))
    any_before (suc n) = elim (any_before n) [
      | inl some ↦ inl (some.0, omega (arith, some.1), some.2)
      | inr none ↦ at n none (entry numbers n) refl
    ]
      where
        at : (n : ℕ) → ((j : ℕ) → j < n → ¬ (entry numbers j ≡ Some m)) → (o : Option ℕ) → entry numbers n ≡ o → ((j : ℕ) × (j < suc n) × (entry numbers j ≡ Some m)) ⊎ ((j : ℕ) → j < suc n → ¬ (entry numbers j ≡ Some m))
        at n none None e = inr (λ j less. last_of j n less (λ same. let e' : entry numbers n ≡ None = e in λ h. let h' : entry numbers n ≡ Some m = subst (λ i. entry numbers i ≡ Some m) same h in absurd (cc (h', e'))) (none j))
        at n none (Some k) e = elim (cases_eq k m) [
          | inl same ↦ inl (n, omega arith, e ∙ ap (λ x. Some x) same)
          | inr apart ↦ inr (λ j less. last_of j n less (λ same. λ h. let h' : entry numbers n ≡ Some m = subst (λ i. entry numbers i ≡ Some m) same h in apart (same_Some k m (sym e ∙ h'))) (none j))
        ]

-- where there is a number, something was met
has_met : {L : Type 0} (met : List (Option L)) (xs : List (Option ℕ)) (c : ℕ) → AreNumbers met xs c → (j m : ℕ) → entry xs j ≡ Some m → (y : L) × (entry met j ≡ Some y)
has_met {L} met xs c one j m is = go (entry met j) refl
  where
    go : (l : Option L) → entry met j ≡ l → (y : L) × (entry met j ≡ Some y)
    go None l = let none = (one.nothing j).1 l in absurd (cc (none, is))
    go (Some y) l = (y, l)

-- of two lists of numbers of what was met none has the lesser number where they first differ
no_less : {L : Type 0} (met : List (Option L)) (xs ys : List (Option ℕ)) (c d : ℕ) → AreNumbers met xs c → AreNumbers met ys d
    → (i : ℕ) → ((j : ℕ) → j < i → entry ys j ≡ entry xs j) → (z : L) (m n : ℕ) → entry met i ≡ Some z → entry xs i ≡ Some m → entry ys i ≡ Some n → ¬ (m < n)
no_less met xs ys c d one two i before z m n l ex ey less =
    let earlier = two.first i n m ey less in
    let j = earlier.0 in
    let here : entry ys j ≡ Some m = earlier.2 in
    let there : entry xs j ≡ Some m = sym (before j earlier.1) ∙ here in
    let w = has_met met ys d two j m here in
    let same : z ≡ w.0 = (one.one i j m m z w.0 l w.1 ex there).0 refl in
    let equal : n ≡ m = (two.one i j n m z w.0 l w.1 ey here).1 same in
    omega (arith, less, equal)

same_entry : {L : Type 0} (met : List (Option L)) (xs ys : List (Option ℕ)) (c d : ℕ) → AreNumbers met xs c → AreNumbers met ys d → (bound i : ℕ) → i < bound → entry xs i ≡ entry ys i
same_entry met xs ys c d one two zero i below = absurd (omega (arith, below))
same_entry {L} met xs ys c d one two (suc bound) i below = at (λ j less. same_entry met xs ys c d one two bound j (omega (arith, less, below))) (entry met i) refl (entry xs i) refl (entry ys i) refl
  where
    at : ((j : ℕ) → j < i → entry xs j ≡ entry ys j) → (l : Option L) → entry met i ≡ l → (x : Option ℕ) → entry xs i ≡ x → (y : Option ℕ) → entry ys i ≡ y → entry xs i ≡ entry ys i
    at before None l x ex y ey = (one.nothing i).1 l ∙ sym ((two.nothing i).1 l)
    at before (Some z) l None ex y ey = let none = (one.nothing i).0 ex in absurd (cc (none, l))
    at before (Some z) l (Some m) ex None ey = let none = (two.nothing i).0 ey in absurd (cc (none, l))
    at before (Some z) l (Some m) ex (Some n) ey = elim (cases_lt m n) [
      | inl less ↦ absurd (no_less met xs ys c d one two i (λ j j_less. sym (before j j_less)) z m n l ex ey less)
      | inr not_less ↦ elim (cases_lt n m) [
        | inl more ↦ absurd (no_less met ys xs d c two one i before z n m l ey ex more)
        | inr not_more ↦ let equal : m ≡ n = omega (arith, not_less, not_more) in ex ∙ (ap (λ k. Some k) equal ∙ sym ey)
      ]
    ]

-- the numbers of what was met, and their count, are determined
pub same_numbers : {L : Type 0} (met : List (Option L)) (xs ys : List (Option ℕ)) (c d : ℕ) → AreNumbers met xs c → AreNumbers met ys d → xs ≡ ys
same_numbers met xs ys c d one two = same_lists xs ys (one.long ∙ sym two.long) (λ k e below. get_or_default xs k e None below ∙ (same_entry met xs ys c d one two (suc k) k (omega arith) ∙ get_or_default ys k None e (omega (arith, below, one.long, two.long))))

count_at_most : {L : Type 0} (met : List (Option L)) (xs ys : List (Option ℕ)) (c d : ℕ) → AreNumbers met xs c → AreNumbers met ys d → c ≤ d
count_at_most met xs ys c d one two = elim (cases_lt d c) [
  | inl more ↦
      let some = (one.counted d).0 more in
      let there : entry ys some.0 ≡ Some d = sym (same_entry met xs ys c d one two (suc some.0) some.0 (omega arith)) ∙ some.1 in
      let below : d < d = (two.counted d).1 (some.0, there) in
      absurd (omega (arith, below))
  | inr not_more ↦ not_more
]

pub same_counts : {L : Type 0} (met : List (Option L)) (xs ys : List (Option ℕ)) (c d : ℕ) → AreNumbers met xs c → AreNumbers met ys d → c ≡ d
same_counts met xs ys c d one two = omega (arith, count_at_most met xs ys c d one two, count_at_most met ys xs d c two one)

-- the classes of a region to a horizon are determined
pub same_classes : (h : ℕ) (r : RegionState) (x y : ClassLists) → AreClasses h r x → AreClasses h r y → x ≡ y
same_classes h r x y one two = λ i. record {
  cells = same_numbers (cell_looks h r) x.cells y.cells x.cell_count y.cell_count one.cells two.cells i;
  corners = same_numbers (corner_looks h r) x.corners y.corners x.corner_count y.corner_count one.corners two.corners i;
  cell_count = same_counts (cell_looks h r) x.cells y.cells x.cell_count y.cell_count one.cells two.cells i;
  corner_count = same_counts (corner_looks h r) x.corners y.corners x.corner_count y.corner_count one.corners two.corners i;
}

-- an entry with a number is one of the list
pub entry_below : (xs : List (Option ℕ)) (j m : ℕ) → entry xs j ≡ Some m → j < length xs
entry_below xs j m is = elim (cases_lt j (length xs)) [
  | inl below ↦ below
  | inr past ↦ let gone : entry xs j ≡ None = get_or_past xs j None past in absurd (cc (is, gone))
]
