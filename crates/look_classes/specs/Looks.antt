-- Looks of corners and of cells to a horizon. None stands where a look leaves the finished part:
-- where it needs a join, a place or a rule that is not there.
use Rattle.std.specs.Prelude.{ℕ, zero, suc, List, [], ◌∷◌, ◌++◌, ℤ, pos, ◌-ℤ◌, Bool, true, false, Option, None, Some, if◌then◌else◌}
use Rattle.std.specs.Option.{option_map, option_and_then}
use Rattle.coincidence.specs.Tables.{joined_to, kind_of, type_at}
use Rattle.region_grower.specs.Regions.{RegionState}
use Rattle.region_grower.specs.Corners.{valence_at, rounds}
use Rattle.look_classes.specs.declared.rule.SideRule.{SideRule}
use Rattle.look_classes.specs.declared.rule.SideRule.TheVariants.{Parent, Child, Left, Right}
use Rattle.look_classes.specs.Tree.{distance, sides_of, right_of, counted}
use Rattle.look_classes.specs.Places.{placed, place, outer_side, rule_of}

-- what f makes of two things that are there
abbrev pub both : {A B C : Type 0} → (A → B → C) → Option A → Option B → Option C
both f None y = None
both f (Some x) y = option_map (f x) y

-- what f gives for each number below n of which p holds, in order, where it is there for each
unfoldable pub each_where : {A : Type 0} → ℕ → (ℕ → Bool) → (ℕ → Option A) → Option (List A)
each_where zero p f = Some []
each_where (suc n) p f = if p n
    then both (λ xs x. xs ++ x ∷ []) (each_where n p f) (f n)
    else each_where n p f

-- what f gives for each number below n, in order, where it is there for each
unfoldable pub each_below : {A : Type 0} → ℕ → (ℕ → Option A) → Option (List A)
each_below zero f = Some []
each_below (suc n) f = both (λ xs x. xs ++ x ∷ []) (each_below n f) (f n)

-- The look of a corner to horizon 0: for each number of LX below the valence the distance of the
-- cell that they reach from the base, less that of the base's cell, and the place of the outer
-- side.
pub record CornerLook : Type 0 where
  pub distances : List ℤ
  pub outer_place : ℕ

-- the distances round the corner of a dart at place 0
unfoldable pub distances_from : RegionState → ℕ × ℕ → Option (List ℤ)
distances_from r b = each_below (valence_at r.table b)
    (λ j. option_map (λ e. pos (distance r e.0) -ℤ pos (distance r b.0)) (rounds j r.table b))

unfoldable pub look_from : RegionState → ℕ × ℕ → Option CornerLook
look_from r b = both (λ ds p. record { distances = ds; outer_place = p })
    (distances_from r b) (place r (right_of r b))

-- the look to horizon 0 of the corner at the left end of a dart
abbrev pub first_look : RegionState → ℕ × ℕ → Option CornerLook
first_look r d = option_and_then (λ b. look_from r b.1) (placed r d)

-- The look to a horizon: the look to horizon 0, and for a horizon over 0 the look to one less of
-- the corner of the outer side.
unfoldable pub corner_look : ℕ → RegionState → ℕ × ℕ → Option (List CornerLook)
corner_look zero r d = option_map (λ x. x ∷ []) (first_look r d)
corner_look (suc h) r d = both (λ x xs. x ∷ xs) (first_look r d)
    (option_and_then (corner_look h r) (outer_side r d))

-- what a look at a cell says of one of its sides: its rule, its place, and the look of its corner
pub record SideLook : Type 0 where
  pub rule : SideRule
  pub place : ℕ
  pub corner : List CornerLook

-- what it says of the cell itself: its kind, the residue of the side counted as 0, and all sides
pub record FaceLook : Type 0 where
  pub kind : ℕ
  pub residue : ℕ
  pub sides : List SideLook

-- the look of side j of a cell, counted from its parent side
unfoldable pub side_look : ℕ → RegionState → ℕ → ℕ → Option SideLook
side_look h r c j = both
    (λ (x : SideRule × ℕ) corner. record { rule = x.0; place = x.1; corner = corner })
    (both (λ rule p. (rule, p)) (rule_of r c j) (place r (counted r c j)))
    (corner_look h r (counted r c j))

unfoldable pub face_look : ℕ → RegionState → ℕ → Option FaceLook
face_look h r c = option_map
    (λ sides. record {
      kind = kind_of r.table.origins c;
      residue = (type_at r.table (counted r c 0)).1;
      sides = sides;
    })
    (each_below (sides_of r c) (side_look h r c))

-- the looks of cells to a horizon: for a horizon over 0, with the looks to one less of the cells
-- across the Child sides, in their order
abbrev pub CellLook : ℕ → Type 0
CellLook zero = FaceLook
CellLook (suc h) = FaceLook × List (CellLook h)

-- whether side j of a cell, counted from its parent side, has the rule Child
abbrev pub is_child_rule : Option SideRule → Bool
is_child_rule None = false
is_child_rule (Some Parent) = false
is_child_rule (Some Child) = true
is_child_rule (Some Left) = false
is_child_rule (Some Right) = false

abbrev pub has_child : RegionState → ℕ → ℕ → Bool
has_child r c j = is_child_rule (rule_of r c j)

-- the look of a cell to a horizon
unfoldable pub cell_look : (h : ℕ) → RegionState → ℕ → Option (CellLook h)
cell_look zero r c = face_look 0 r c
cell_look (suc h) r c = both (λ face children. (face, children))
    (face_look (suc h) r c)
    (each_where (sides_of r c) (has_child r c)
    (λ j. option_and_then (λ e. cell_look h r e.0) (joined_to r.table (counted r c j))))
