-- Numbers and lists of numbers that stand for looks, and what holds of numbers given one after the
-- other: for the code alone; the definitions of looks are in Looks.
use Rattle.std.specs.Prelude.{◌≡◌, ℕ, ◌+◌, ◌-◌, ◌*◌, ◌<◌, ◌↔◌, nat_le, List, [], ◌∷◌, ◌++◌, map, length, slice_get, slice_index_or, Option, None, Some, if◌then◌else◌}
use Rattle.std.specs.Option.{option_map, option_and_then}
use Rattle.coincidence.specs.Tables.{joined_to, kind_of, type_at}
use Rattle.region_grower.specs.Regions.{RegionState}
use Rattle.region_grower.specs.Corners.{valence_at, rounds}
use Rattle.look_classes.specs.declared.numbering.Numbering.{Numbering}
use Rattle.look_classes.specs.declared.rule.SideRule.{SideRule}
use Rattle.look_classes.specs.declared.rule.SideRule.TheVariants.{Parent, Child, Left, Right}
use Rattle.look_classes.specs.Tree.{distance, sides_of, dart_of, right_of, counted}
use Rattle.look_classes.specs.Places.{placed, place, outer_side, rule_of}
use Rattle.look_classes.specs.Looks.{both, each_where, each_below, has_child}
use Rattle.look_classes.specs.Numbers.{entry, AreNumbers}
use Rattle.look_classes.specs.Classes.{ClassLists, AreClasses, below, sides_below, made}

-- the difference of two distances, in a number
abbrev pub difference_code : ℕ → ℕ → ℕ
difference_code a b = if nat_le b a then 2 * (a - b) else 2 * (b - a) - 1

-- of a dart: how far its cell lies, less how far that of a base lies
abbrev pub distance_code : RegionState → ℕ × ℕ → ℕ × ℕ → ℕ
distance_code r b e = difference_code (distance r e.0) (distance r b.0)

abbrev pub distance_codes : RegionState → ℕ × ℕ → Option (List ℕ)
distance_codes r b = each_below (valence_at r.table b)
    (λ j. option_map (distance_code r b) (rounds j r.table b))

-- the look to horizon 0 of the corner of a base, and of any dart
unfoldable pub look_code : RegionState → ℕ × ℕ → Option (List ℕ)
look_code r b = both (λ ds p. ds ++ p ∷ []) (distance_codes r b) (place r (right_of r b))

unfoldable pub first_code : RegionState → ℕ × ℕ → Option (List ℕ)
first_code r d = option_and_then (λ b. look_code r b.1) (placed r d)

-- of each of some sides of cells
abbrev pub first_codes : RegionState → List (ℕ × ℕ) → List (Option (List ℕ))
first_codes r sides = map (λ s. first_code r (dart_of r s.0 s.1)) sides

-- the sides of a cell
abbrev pub sides_at : RegionState → ℕ → List (ℕ × ℕ)
sides_at r c = map (λ i. (c, i)) (below (sides_of r c))

-- at what index the sides of a cell begin in the list of all sides, and where one of them stands
abbrev pub start_of : RegionState → ℕ → ℕ
start_of r c = length (sides_below c r)

pub record AreStarts (r : RegionState) (starts : List ℕ) : Type 0 where
  pub long : length starts ≡ made r
  pub begins : (c : ℕ) → c < made r → slice_index_or starts c 0 ≡ start_of r c

-- the number of the corner of a dart, among those of all sides
abbrev pub number_at : RegionState → List (Option ℕ) → ℕ × ℕ → Option ℕ
number_at r numbers d = entry numbers (start_of r d.0 + d.1)

-- the look to a horizon one farther of the corner of a dart, by numbers
unfoldable pub next_code : RegionState → List (Option ℕ) → List (Option ℕ) → ℕ × ℕ → Option (List ℕ)
next_code r firsts corners d = both (λ a b. a ∷ b ∷ []) (number_at r firsts d)
    (option_and_then (number_at r corners) (outer_side r d))

abbrev pub next_codes : RegionState → List (Option ℕ) → List (Option ℕ) → List (ℕ × ℕ)
    → List (Option (List ℕ))
next_codes r firsts corners sides = map (λ s. next_code r firsts corners (dart_of r s.0 s.1)) sides

-- a rule, a side, a cell itself, and its children, by the numbers of corners and of cells
abbrev pub rule_code : SideRule → ℕ
rule_code Parent = 0
rule_code Child = 1
rule_code Left = 2
rule_code Right = 3

unfoldable pub side_code : RegionState → List (Option ℕ) → ℕ → ℕ → Option (ℕ × ℕ × ℕ)
side_code r corners c j = both (λ (x : ℕ × ℕ) k. (x.0, x.1, k))
    (both (λ rule p. (rule_code rule, p)) (rule_of r c j) (place r (counted r c j)))
    (number_at r corners (counted r c j))

abbrev pub flat : List (ℕ × ℕ × ℕ) → List ℕ
flat [] = []
flat (x ∷ xs) = x.0 ∷ x.1 ∷ x.2 ∷ flat xs

unfoldable pub face_code : RegionState → List (Option ℕ) → ℕ → Option (List ℕ)
face_code r corners c = option_map
    (λ ss. kind_of r.table.origins c ∷ (type_at r.table (counted r c 0)).1 ∷ flat ss)
    (each_below (sides_of r c) (side_code r corners c))

unfoldable pub child_code : RegionState → List (Option ℕ) → ℕ → ℕ → Option ℕ
child_code r cells c j = option_and_then (λ e. entry cells e.0) (joined_to r.table (counted r c j))

abbrev pub child_codes : RegionState → List (Option ℕ) → ℕ → Option (List ℕ)
child_codes r cells c = each_where (sides_of r c) (has_child r c) (child_code r cells c)

unfoldable pub cell_code : RegionState → List (Option ℕ) → List (Option ℕ) → ℕ → Option (List ℕ)
cell_code r corners cells c = both (λ f m. f ++ m) (face_code r corners c) (child_codes r cells c)

-- Keys that were handed in one after the other have their numbers: each new one the next number.
abbrev pub key_at : Numbering → ℕ → Option (List ℕ)
key_at n k = option_map (λ v. v.items) (slice_get n.keys.keys k)

pub record HasNumbered (met : List (Option (List ℕ))) (n : Numbering) : Type 0 where
  pub long : length n.numbers.items ≡ length met
  pub nothing : (i : ℕ) → (entry n.numbers.items i ≡ None) ↔ (entry met i ≡ None)
  pub keys : (i m : ℕ) (x : List ℕ) → entry met i ≡ Some x → entry n.numbers.items i ≡ Some m
      → key_at n m ≡ Some x
  pub first : (i m k : ℕ) → entry n.numbers.items i ≡ Some m → k < m
      → (j : ℕ) × (j < i) × (entry n.numbers.items j ≡ Some k)
  pub counted : (k : ℕ) → (k < length n.keys.keys) ↔ ((i : ℕ) × (entry n.numbers.items i ≡ Some k))
  pub distinct : (i j : ℕ) (x : List ℕ) → key_at n i ≡ Some x → key_at n j ≡ Some x → i ≡ j

-- so many keys more were handed in
abbrev pub HasNumberedMore : Numbering → Numbering → List (Option (List ℕ)) → Type 0
HasNumberedMore n n' xs = (met : List (Option (List ℕ))) → HasNumbered met n
    → HasNumbered (met ++ xs) n'

-- what a search for looks keeps
pub record IsLooks (r : RegionState) (h : ℕ) (numbers : List (Option ℕ))
    (lists : ClassLists) : Type 0
  where
    pub count : ℕ
    pub firsts : AreNumbers (first_codes r (sides_below (made r) r)) numbers count
    pub classes : AreClasses h r lists
