-- The sides of the cells below a number, in order of cells and then of sides.
use Rattle.std.proofs.Common.{◌≡◌, ℕ, zero, suc, ◌+◌, ◌-◌, ◌<◌, ◌≤◌, List, [], ◌∷◌, ◌++◌, map, length, slice_index, get_or, refl, sym, ap, ◌∙◌, subst, inl, inr, arith, add-one}
use Rattle.std.proofs.Math.ListN.{length-append, get_or-append}
use Rattle.std.proofs.Math.Nat.{eq-or-lt_of_le}
use Rattle.std.proofs.lemmas.List.{length-map, get_or_push, get_or_default, get_or-append-add, map-append}
use Rattle.std.proofs.lemmas.Bool.{cases_lt}
use Rattle.region_grower.specs.Regions.{RegionState}
use Rattle.look_classes.specs.Tree.{sides_of}
use Rattle.look_classes.specs.Classes.{below, below as numbers, sides_below}
use Rattle.state_candidates.specs.Reading.{corner_index}
use Rattle.state_candidates.specs.Readers.{AreStarts}

pub length_below : (n : ℕ) → length (below n) ≡ n
unfolding below
length_below zero = refl
length_below (suc n) = length-append (below n) (n ∷ []) ∙ omega (arith, length_below n)

-- the sides of one more cell
pub sides_more : (r : RegionState) (c : ℕ) → length (sides_below (c + 1) r) ≡ length (sides_below c r) + sides_of r c
unfolding sides_below
sides_more r c = ap (λ n. length (sides_below n r)) (add-one c) ∙ (length-append (sides_below c r) (map (λ i. (c, i)) (below (sides_of r c))) ∙ ap (λ n. length (sides_below c r) + n) (length-map (below (sides_of r c)) (λ i. (c, i)) ∙ length_below (sides_of r c)))

pub no_sides : (r : RegionState) → length (sides_below 0 r) ≡ 0
unfolding sides_below
no_sides r = refl

-- what is said of each entry of a list, and of one more, is said of each of the longer list
pub starts_more : (f : ℕ → ℕ) (starts : List ℕ) (c before : ℕ) → length starts ≡ c → before ≡ f c
    → ((i : ℕ) → i < c → slice_index starts i ≡ f i)
    → (i : ℕ) → i < c + 1 → slice_index (starts ++ before ∷ []) i ≡ f i
starts_more f starts c before long is each i less = elim (eq-or-lt_of_le (le i c less)) [
  | inl same ↦ get_or_push starts before 0 i (long ∙ sym same) ∙ (is ∙ ap f (sym same))
  | inr lower ↦ get_or-append starts (before ∷ []) 0 i (omega (arith, lower, long)) ∙ each i lower
]
  where
    le : (i c : ℕ) → i < c + 1 → i ≤ c
    le i c less = omega arith

-- where the corners of the cell of a dart begin, as it is read from the list
pub start_of : (r : RegionState) (starts : List ℕ) → AreStarts r starts → (c : ℕ) → c < length r.table.origins → (x : ℕ)
    → x ≡ get_or starts c x → x ≡ length (sides_below c r)
start_of r starts ok c made x is = is ∙ (get_or_default starts c x 0 (omega (arith, made, ok.long)) ∙ ok.each c made)

map_below : {A : Type 0} (f : ℕ → A) (d : A) (k i : ℕ) → i < k → get_or (map f (below k)) i d ≡ f i
unfolding below
map_below f d zero i less = absurd (omega (arith, less))
map_below {A} f d (suc k) i less =
    let long : length (map f (below k)) ≡ k = length-map (below k) f ∙ length_below k in
    let split : map f (below k ++ k ∷ []) ≡ map f (below k) ++ f k ∷ [] = map-append f (below k) (k ∷ []) in
    ap (λ (xs : List A). get_or xs i d) split ∙ elim (cases_lt i k) [
      | inl lower ↦ get_or-append (map f (below k)) (f k ∷ []) d i (omega (arith, lower, long)) ∙ map_below f d k i lower
      | inr more ↦ let same : i ≡ k = omega (arith, more, less) in get_or_push (map f (below k)) (f k) d i (omega (arith, long, same)) ∙ ap f (sym same)
    ]

-- the sides of a cell stand before those of the cells behind it
pub index_within : (r : RegionState) (n c i : ℕ) → c < n → i < sides_of r c → corner_index r c i < length (sides_below n r)
index_within r zero c i below side = absurd (omega (arith, below))
index_within r (suc n) c i below side = elim (cases_lt c n) [
  | inl lower ↦ subst (λ m. corner_index r c i < length (sides_below m r)) (add-one n) (omega (arith, index_within r n c i lower side, sides_more r n))
  | inr more ↦
      let same : c ≡ n = omega (arith, more, below) in
      let side' : i < sides_of r n = subst (λ m. i < sides_of r m) same side in
      let h : corner_index r n i < length (sides_below (n + 1) r) = omega (arith, sides_more r n, side') in
      subst (λ m. corner_index r c i < length (sides_below m r)) (add-one n) (subst (λ m. corner_index r m i < length (sides_below (n + 1) r)) (sym same) h)
]

pub side_at : (r : RegionState) (n c i : ℕ) → c < n → i < sides_of r c → get_or (sides_below n r) (corner_index r c i) (0, 0) ≡ (c, i)
unfolding sides_below
side_at r zero c i below side = absurd (omega (arith, below))
side_at r (suc n) c i below side =
    let mine : List (ℕ × ℕ) = map (λ i. (n, i)) (numbers (sides_of r n)) in
    elim (cases_lt c n) [
      | inl lower ↦ get_or-append (sides_below n r) mine (0, 0) (corner_index r c i) (index_within r n c i lower side) ∙ side_at r n c i lower side
      | inr more ↦
          let same : c ≡ n = omega (arith, more, below) in
          let side' : i < sides_of r n = subst (λ m. i < sides_of r m) same side in
          let at : get_or (sides_below n r ++ mine) (length (sides_below n r) + i) (0, 0) ≡ (n, i) = get_or-append-add (sides_below n r) mine i (0, 0) ∙ map_below (λ i. (n, i)) (0, 0) (sides_of r n) i side' in
          subst (λ m. get_or (sides_below n r ++ mine) (corner_index r m i) (0, 0) ≡ (m, i)) (sym same) at
    ]

-- each index is that of a side of some cell
pub record IsSide (r : RegionState) (n j : ℕ) : Type 0 where
  pub cell : ℕ
  pub side : ℕ
  pub made : cell < n
  pub within : side < sides_of r cell
  pub is : j ≡ corner_index r cell side

pub side_find : (r : RegionState) (n j : ℕ) → j < length (sides_below n r) → IsSide r n j
side_find r zero j below = absurd (omega (arith, below, no_sides r))
side_find r (suc n) j below = elim (cases_lt j (length (sides_below n r))) [
  | inl less ↦ let s = side_find r n j less in record { cell = s.cell; side = s.side; made = omega (arith, s.made); within = s.within; is = s.is }
  | inr more ↦
      let last : length (sides_below (suc n) r) ≡ length (sides_below n r) + sides_of r n = ap (λ m. length (sides_below m r)) (sym (add-one n)) ∙ sides_more r n in
      record { cell = n; side = j - length (sides_below n r); made = omega arith; within = omega (arith, below, last, more); is = omega (arith, more) }
]
