-- The classes of the cells and of the corners of a region, by their looks to a horizon.
use Rattle.std.specs.Prelude.{ℕ, zero, suc, List, [], ◌∷◌, ◌++◌, map, length, Option}
use Rattle.region_grower.specs.Regions.{RegionState}
use Rattle.look_classes.specs.Tree.{sides_of, dart_of}
use Rattle.look_classes.specs.Looks.{CellLook, CornerLook, cell_look, corner_look}
use Rattle.look_classes.specs.Numbers.{AreNumbers}

-- For each cell that was made its number, and for each side of each of them, in order of cells and
-- then of sides, the number of its corner; and how many numbers of each there are.
pub record ClassLists : Type 0 where
  pub cells : List (Option ℕ)
  pub corners : List (Option ℕ)
  pub cell_count : ℕ
  pub corner_count : ℕ

-- the numbers below n, in order
unfoldable pub below : ℕ → List ℕ
below zero = []
below (suc n) = below n ++ n ∷ []

-- the sides of the cells below n, in order of cells and then of sides
unfoldable pub sides_below : ℕ → RegionState → List (ℕ × ℕ)
sides_below zero r = []
sides_below (suc c) r = sides_below c r ++ map (λ i. (c, i)) (below (sides_of r c))

abbrev pub made : RegionState → ℕ
made r = length r.table.origins

-- the looks of all cells, and of the corners of all their sides
abbrev pub cell_looks : (h : ℕ) → RegionState → List (Option (CellLook h))
cell_looks h r = map (cell_look h r) (below (made r))

abbrev pub corner_looks : ℕ → RegionState → List (Option (List CornerLook))
corner_looks h r = map (λ s. corner_look h r (dart_of r s.0 s.1)) (sides_below (made r) r)

-- Two cells have one number exactly where their looks to the horizon agree, and so have two
-- corners.
pub record AreClasses (h : ℕ) (r : RegionState) (classes : ClassLists) : Type 0 where
  pub cells : AreNumbers (cell_looks h r) classes.cells classes.cell_count
  pub corners : AreNumbers (corner_looks h r) classes.corners classes.corner_count
