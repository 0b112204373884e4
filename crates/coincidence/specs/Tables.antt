-- A table as its contracts see it: where its cells come from, what they became, and which darts are
-- joined.
use Rattle.std.specs.Prelude.{◌≡◌, ℕ, zero, suc, ◌/◌, ◌%◌, ◌<◌, ◌==◌, nat_lt, ◌&&◌, List, [], ◌∷◌, ◌++◌, length, replicate, slice_index_or, Option, None, Some, if◌then◌else◌}
use Rattle.tile_model.specs.declared.Letter.{Letter}
use Rattle.tile_model.specs.declared.Letter.TheVariants.{L, R, X}
use Rattle.tile_model.specs.Tessellations.{TileKind, kind_at, cross}
use Rattle.tile_model.specs.Relation.{AreRelated, AreAtSameTile}
use Rattle.coincidence.specs.declared.origin.Origin.{Origin}
use Rattle.coincidence.specs.declared.table.Cell.{Cell}
use Rattle.coincidence.specs.Darts.{nowhere, pack, unpack, slot_at}
use Rattle.coincidence.specs.Cells.{turn_at, into_at, IsLive}
use Rattle.coincidence.specs.Atlases.{Atlas, walk_of}

-- The kinds of the tessellation, where each cell comes from, what the cells became, and the slots
-- of their darts.
pub record JoinTable : Type 0 where
  pub kinds : List TileKind
  pub origins : List Origin
  pub cells : List Cell
  pub slots : List ℕ

abbrev pub no_origin : Origin
no_origin = record { kind = 0; own = 0; across = 0 }

abbrev pub origin_at : List Origin → ℕ → Origin
origin_at origins c = slice_index_or origins c no_origin

-- the kind of a cell
abbrev pub kind_of : List Origin → ℕ → ℕ
kind_of origins c = (origin_at origins c).kind

-- The walk to a cell: empty for the first cell, else the walk of the dart across which it was made,
-- X, and as many R as its own side has in number. It is followed through so many cells at most;
-- each cell was made across a dart of an earlier one.
abbrev pub walk_within : ℕ → List Origin → ℕ → List Letter
walk_within zero origins c = []
walk_within (suc n) origins c = if nat_lt 0 c && nat_lt c (length origins)
    then (walk_within n origins ((origin_at origins c).across / 64)
    ++ replicate ((origin_at origins c).across % 64) L) ++ X ∷ replicate (origin_at origins c).own R
    else []

unfoldable pub walk_to : List Origin → ℕ → List Letter
walk_to origins c = walk_within c origins c

-- the walks of a table start at side 0 of a tile of the kind of its first cell
abbrev pub atlas_of : List TileKind → List Origin → Atlas
atlas_of kinds origins = record {
  kinds = kinds;
  start = (kind_of origins 0, 0);
  walk_to = walk_to origins;
}

abbrev pub atlas : JoinTable → Atlas
atlas t = atlas_of t.kinds t.origins

-- the walk of a dart of a table
abbrev pub dart_walk : JoinTable → ℕ × ℕ → List Letter
dart_walk t d = walk_of (atlas t) d

-- the type of a dart
abbrev pub type_in : List TileKind → List Origin → ℕ × ℕ → ℕ × ℕ
type_in kinds origins d = (kind_of origins d.0, d.1 % (kind_at kinds (kind_of origins d.0)).repeat)

abbrev pub type_at : JoinTable → ℕ × ℕ → ℕ × ℕ
type_at t d = type_in t.kinds t.origins d

abbrev pub dart_in : ℕ → Option (ℕ × ℕ)
dart_in n = if n == nowhere then None else Some (unpack n)

-- The dart that a dart of a live cell is joined to. Sides equal modulo the turn are one dart.
abbrev pub joined_in : List Cell → List ℕ → ℕ × ℕ → Option (ℕ × ℕ)
joined_in cells slots d = if turn_at cells d.0 == 0
    then None
    else dart_in (slot_at slots (pack (d.0, d.1 % turn_at cells d.0)))

abbrev pub joined_to : JoinTable → ℕ × ℕ → Option (ℕ × ℕ)
joined_to t d = joined_in t.cells t.slots d

-- A cell that was made comes from a dart of an earlier one: it lies across from it by its own side.
pub record ComesFrom (kinds : List TileKind) (origins : List Origin) (c : ℕ) : Type 0 where
  pub earlier : (origin_at origins c).across / 64 < c
  pub own : (origin_at origins c).own < 64
  pub across : (kind_of origins c, (origin_at origins c).own)
      ≡ cross kinds (type_in kinds origins (unpack (origin_at origins c).across))

-- The table is sound: joined darts lie across from each other, a renamed cell is at the same tile
-- as the one that it became, and a live cell is the same when turned by its turn.
pub record IsSoundTable (t : JoinTable) : Type 0 where
  pub joined : (a b : ℕ × ℕ) → joined_to t a ≡ Some b
      → AreRelated t.kinds (kind_of t.origins 0, 0) (dart_walk t a ++ X ∷ []) (dart_walk t b)
  pub renamed : (c : ℕ) → c < length t.origins → turn_at t.cells c ≡ 0
      → AreAtSameTile t.kinds (kind_of t.origins 0, 0)
      (dart_walk t (into_at t.cells c, 0))
      (dart_walk t (c, 0))
  pub turned : (c : ℕ) → IsLive t.cells c
      → AreRelated t.kinds (kind_of t.origins 0, 0)
      (dart_walk t (c, turn_at t.cells c))
      (dart_walk t (c, 0))
