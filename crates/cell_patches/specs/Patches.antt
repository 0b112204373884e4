-- What contracts see of the patches of a tessellation.
use Rattle.std.specs.Prelude.{◌≡◌, ℕ, ◌+◌, ◌%◌, ◌<◌, ◌≤◌, List, length, sum_by, slice_get, slice_index_or, Option, Some, option_and_then, Bool, true, false}
use Rattle.tile_model.specs.Tessellations.{TileKind, kind_at}
use Rattle.coincidence.specs.Cells.{name, turn_at}
use Rattle.coincidence.specs.Tables.{JoinTable, joined_to, kind_of}

-- A patch: its cells and joins, and for each cell the least known distance from the first one.
pub record PatchState : Type 0 where
  pub table : JoinTable
  pub distances : List ℕ

-- The kinds of the tessellation, the patch of each kind, how many cells may be made in all, and how
-- many changes were counted.
pub record PatchTables : Type 0 where
  pub kinds : List TileKind
  pub patches : List PatchState
  pub most : ℕ
  pub changes : ℕ

-- the number of cells that were made in all patches
abbrev pub cells_made : List PatchState → ℕ
cells_made patches = sum_by (λ s. length s.table.origins) patches

-- As many cells may be made in all patches as before, and no more were made.
pub record KeepsBudget (before after : PatchTables) : Type 0 where
  pub most : after.most ≡ before.most
  pub within : cells_made after.patches ≤ after.most

-- the dart that a dart of a patch is joined to
abbrev pub joined_in_patch : PatchTables → ℕ → ℕ × ℕ → Option (ℕ × ℕ)
joined_in_patch p k d = option_and_then (λ s. joined_to s.table d) (slice_get p.patches k)

-- the distance of what is not there
abbrev pub far : ℕ
far = 4294967295

-- the least known distance of a cell of a patch
abbrev pub distance_in : PatchState → ℕ → ℕ
distance_in s c = slice_index_or s.distances c far

-- the number of sides of a tile of the kind of a cell
abbrev pub sides_in : JoinTable → ℕ → ℕ
sides_in t c = (kind_at t.kinds (kind_of t.origins c)).sides

-- A dart that is there: its cell was made, and its tile has such a side.
pub record IsThereIn (t : JoinTable) (d : ℕ × ℕ) : Type 0 where
  pub made : d.0 < length t.origins
  pub side : d.1 < sides_in t d.0

-- A dart that is there, in a patch that is in this state.
pub record IsThere (p : PatchTables) (k : ℕ) (d : ℕ × ℕ) (s : PatchState) : Type 0 where
  pub patch : slice_get p.patches k ≡ Some s
  pub dart : IsThereIn s.table d

-- The cell across a dart is known to lie one crossing nearer.
pub record LeadsNearer (s : PatchState) (d : ℕ × ℕ) : Type 0 where
  pub over : ℕ × ℕ
  pub joined : joined_to s.table d ≡ Some over
  pub nearer : distance_in s over.0 + 1 ≡ distance_in s d.0

-- the side is among some sides, of which each is marked
abbrev pub IsAmong : List Bool → ℕ → Type 0
IsAmong sides i = slice_index_or sides i false ≡ true

-- the dart so many sides to the left of a dart, as that is named
abbrev pub turned_in : JoinTable → ℕ × ℕ → ℕ → ℕ × ℕ
turned_in t d n =
    ((name t.cells d).0, ((name t.cells d).1 + n) % turn_at t.cells (name t.cells d).0)
