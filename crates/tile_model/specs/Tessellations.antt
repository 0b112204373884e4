-- Tessellations by kinds of tile, the types of their sides, and the moves from type to type.
use Rattle.std.specs.Prelude.{ℕ, zero, suc, ◌+◌, ◌-◌, ◌%◌, ◌<◌, List, [], length, slice_index_or, Bool, nat_lt, ◌&&◌, if◌then◌else◌}

-- A kind of tile: its number of sides, its repeat (sides whose numbers are equal modulo the repeat
-- are alike), and for each residue below the repeat the partner of that side and the valence of the
-- corner at its left end.
pub record TileKind : Type 0 where
  pub sides : ℕ
  pub repeat : ℕ
  pub partner : List (ℕ × ℕ)
  pub valence : List ℕ

-- what stands for a kind that is not there
abbrev pub no_kind : TileKind
no_kind = record { sides = 0; repeat = 0; partner = []; valence = [] }

abbrev pub kind_at : List TileKind → ℕ → TileKind
kind_at kinds k = slice_index_or kinds k no_kind

-- A type is a kind and a residue below its repeat.
abbrev pub IsType : List TileKind → ℕ × ℕ → Type 0
IsType kinds d = (d.0 < length kinds) × (d.1 < (kind_at kinds d.0).repeat)

-- whether a pair is a type, as a test
abbrev pub is_type : List TileKind → ℕ × ℕ → Bool
is_type kinds d = nat_lt d.0 (length kinds) && nat_lt d.1 (kind_at kinds d.0).repeat

-- the next side to the left, counted modulo the repeat; a pair that is no type is left alone
abbrev pub left : List TileKind → ℕ × ℕ → ℕ × ℕ
left kinds d = if is_type kinds d then (d.0, (d.1 + 1) % (kind_at kinds d.0).repeat) else d

-- the next side to the right; a pair that is no type is left alone
abbrev pub right : List TileKind → ℕ × ℕ → ℕ × ℕ
right kinds d =
    if is_type kinds d
    then (d.0, (d.1 + ((kind_at kinds d.0).repeat - 1)) % (kind_at kinds d.0).repeat) else d

-- the side at the other side of the edge; a pair that is no type is left alone
abbrev pub cross : List TileKind → ℕ × ℕ → ℕ × ℕ
cross kinds d = if is_type kinds d then slice_index_or (kind_at kinds d.0).partner d.1 (0, 0) else d

-- the number of sides of a tile of this type
abbrev pub sides : List TileKind → ℕ × ℕ → ℕ
sides kinds d = (kind_at kinds d.0).sides

-- the number of tiles round the corner at the left end of the faced side
abbrev pub valence : List TileKind → ℕ × ℕ → ℕ
valence kinds d = slice_index_or (kind_at kinds d.0).valence d.1 0

-- one tile further round the corner at the left end
abbrev pub around : List TileKind → ℕ × ℕ → ℕ × ℕ
around kinds d = cross kinds (left kinds d)

-- `around`, n times
abbrev pub around_times : List TileKind → ℕ → ℕ × ℕ → ℕ × ℕ
around_times kinds zero d = d
around_times kinds (suc n) d = around kinds (around_times kinds n d)
