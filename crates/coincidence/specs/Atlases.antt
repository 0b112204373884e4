-- What the cells of a table stand for: a walk to each, and when a table tells the truth about these
-- walks.
use Rattle.std.specs.Prelude.{◌≡◌, ℕ, ◌/◌, ◌%◌, ◌<◌, List, [], ◌∷◌, ◌++◌, replicate}
use Rattle.tile_model.specs.declared.Letter.{Letter}
use Rattle.tile_model.specs.declared.Letter.TheVariants.{L, X}
use Rattle.tile_model.specs.Tessellations.{TileKind}
use Rattle.tile_model.specs.Relation.{AreRelated}
use Rattle.coincidence.specs.declared.table.Cell.{Cell}
use Rattle.coincidence.specs.Darts.{slot_at, IsTaken}
use Rattle.coincidence.specs.Cells.{turn_at, into_at, shift_at, IsLive}

-- The kinds of a tessellation, the type at which all walks start, and the walk to each cell.
pub record Atlas : Type 0 where
  pub kinds : List TileKind
  pub start : ℕ × ℕ
  pub walk_to : ℕ → List Letter

-- two walks from the start are related
pub record AreOne (atlas : Atlas) (u w : List Letter) : Type 0 where
  pub related : AreRelated atlas.kinds atlas.start u w

-- the walk of a dart: that of its cell, and as many L as its side has in number
abbrev pub walk_of : Atlas → ℕ × ℕ → List Letter
walk_of atlas d = atlas.walk_to d.0 ++ replicate d.1 L

-- the cell is the same when turned by so many sides
abbrev pub HasPeriod : Atlas → ℕ → ℕ → Type 0
HasPeriod atlas c n = AreOne atlas (walk_of atlas (c, n)) (atlas.walk_to c)

-- the darts may be joined: the walk of the first, followed by X, is related to that of the second
abbrev pub LieAcross : Atlas → ℕ × ℕ → ℕ × ℕ → Type 0
LieAcross atlas a b = AreOne atlas (walk_of atlas a ++ X ∷ []) (walk_of atlas b)

-- A table tells the truth. Darts that stand in each other's slots lie across from each other. A
-- renamed cell is the earlier one, turned as it says. A live cell is the same when turned by its
-- turn.
pub record IsSound (atlas : Atlas) (cells : List Cell) (slots : List ℕ) : Type 0 where
  pub joined : (n : ℕ) → IsTaken slots n
      → LieAcross atlas (n / 64, n % 64) (slot_at slots n / 64, slot_at slots n % 64)
  pub renamed : (c : ℕ) → turn_at cells c ≡ 0
      → AreOne atlas (atlas.walk_to c) (walk_of atlas (into_at cells c, shift_at cells c))
  pub turned : (c : ℕ) → IsLive cells c → HasPeriod atlas c (turn_at cells c)

-- what must hold of an atlas where the turn of a cell falls
abbrev pub AllowsFall : Atlas → ℕ → ℕ → ℕ → ℕ → Type 0
AllowsFall atlas c turn into shift = (0 < turn → HasPeriod atlas c turn)
    × (turn ≡ 0 → AreOne atlas (atlas.walk_to c) (walk_of atlas (into, shift)))
