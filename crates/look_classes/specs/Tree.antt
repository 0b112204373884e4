-- The tree in a region: which sides of a cell lead nearer to the first cell, which of them is the
-- side of its parent, and which sides are in the tree.
use Rattle.std.specs.Prelude.{ℕ, zero, suc, ◌+◌, ◌-◌, ◌%◌, ◌==◌, Bool, false, ◌&&◌, ◌||◌, not, slice_index, Option, None, Some, if◌then◌else◌}
use Rattle.std.specs.Option.{option_or, unwrap_or}
use Rattle.tile_model.specs.Tessellations.{kind_at}
use Rattle.coincidence.specs.Cells.{turn_at}
use Rattle.coincidence.specs.Tables.{joined_to, kind_of}
use Rattle.region_grower.specs.Regions.{RegionState}

-- whether there is something, and p holds of it
abbrev pub holds : {A : Type 0} → (A → Bool) → Option A → Bool
holds p None = false
holds p (Some x) = p x

-- the least number below n of which p holds
unfoldable pub least_below : ℕ → (ℕ → Bool) → Option ℕ
least_below zero p = None
least_below (suc n) p = option_or (least_below n p) (if p n then Some n else None)

-- the distance of a cell from the first one
abbrev pub distance : RegionState → ℕ → ℕ
distance r c = slice_index r.radii c

-- the number of sides of a cell, which are those of its kind, whatever its turn
abbrev pub sides_of : RegionState → ℕ → ℕ
sides_of r c = (kind_at r.table.kinds (kind_of r.table.origins c)).sides

-- the dart that side i of a cell is
abbrev pub dart_of : RegionState → ℕ → ℕ → ℕ × ℕ
dart_of r c i = (c, i % turn_at r.table.cells c)

-- the next dart to the left, and the next to the right
abbrev pub left_of : RegionState → ℕ × ℕ → ℕ × ℕ
left_of r d = dart_of r d.0 (d.1 + 1)

abbrev pub right_of : RegionState → ℕ × ℕ → ℕ × ℕ
right_of r d = dart_of r d.0 (d.1 + (sides_of r d.0 - 1))

abbrev pub same_dart : ℕ × ℕ → ℕ × ℕ → Bool
same_dart d e = (d.0 == e.0) && (d.1 == e.1)

-- A side leads nearer where it is joined to a cell whose distance is one less.
abbrev pub leads_nearer : RegionState → ℕ × ℕ → Bool
leads_nearer r d = holds (λ e. suc (distance r e.0) == distance r d.0) (joined_to r.table d)

-- A side that leads nearer is a last side where the next one to its left does not.
abbrev pub is_last : RegionState → ℕ × ℕ → Bool
is_last r d = leads_nearer r d && not (leads_nearer r (left_of r d))

-- The parent side of a cell: its last side with the least number; where it has no last side, the
-- side that leads nearer with the least number. The first cell has none, nor has a renamed one.
unfoldable pub parent_side : RegionState → ℕ → Option ℕ
parent_side r c = option_or
    (least_below (sides_of r c) (λ i. is_last r (dart_of r c i)))
    (least_below (sides_of r c) (λ i. leads_nearer r (dart_of r c i)))

-- whether a dart is the parent side of its cell
abbrev pub is_parent : RegionState → ℕ × ℕ → Bool
is_parent r d = holds (λ i. i == d.1) (parent_side r d.0)

-- whether a dart is joined to the parent side of another cell
abbrev pub is_child : RegionState → ℕ × ℕ → Bool
is_child r d = holds (is_parent r) (joined_to r.table d)

abbrev pub in_tree : RegionState → ℕ × ℕ → Bool
in_tree r d = is_parent r d || is_child r d

-- Side j of a cell, counted from its parent side, or from side 0 for the first cell.
abbrev pub counted : RegionState → ℕ → ℕ → ℕ × ℕ
counted r c j = dart_of r c (unwrap_or (parent_side r c) 0 + j)
