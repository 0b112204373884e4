-- Which walks are related: those that some list of insertions and deletions of loops leads from one
-- to the other.
use Rattle.std.specs.Prelude.{◌≡◌, ℕ, ◌<◌, ◌≤◌, Bool, true, false, List, [], ◌∷◌, ◌++◌, length, replicate}
use Rattle.tile_model.specs.declared.Letter.{Letter}
use Rattle.tile_model.specs.declared.Letter.TheVariants.{L, R, X}
use Rattle.tile_model.specs.Tessellations.{TileKind, sides, valence}
use Rattle.tile_model.specs.Walks.{type_of, crossings, times}

-- The five loops at a type, by number: there and back, left and right, right and left, a full turn
-- in the tile, once round the corner.
pub data IsLoop (kinds : List TileKind) (d : ℕ × ℕ) : ℕ → List Letter → Type 0 where
  there_and_back : IsLoop kinds d 1 (X ∷ X ∷ [])
  left_and_right : IsLoop kinds d 2 (L ∷ R ∷ [])
  right_and_left : IsLoop kinds d 3 (R ∷ L ∷ [])
  full_turn : IsLoop kinds d 4 (replicate (sides kinds d) L)
  round_corner : IsLoop kinds d 5 (times (valence kinds d) (L ∷ X ∷ []))

-- a change: a place in the walk, the number of a loop, and whether the loop is inserted there or
-- deleted
pub record Change : Type 0 where
  pub at : ℕ
  pub loop : ℕ
  pub insert : Bool

-- The change leads from walk u to walk w. Behind as many letters as its place says, a loop of its
-- number at the type after these letters is inserted, or follows and is deleted.
pub data Changes (kinds : List TileKind) (d : ℕ × ℕ) (c : Change) (u w : List Letter) : Type 0 where
  inserts : (before loop behind : List Letter) → c.insert ≡ true → c.at ≡ length before
      → IsLoop kinds (type_of kinds d before) c.loop loop → u ≡ before ++ behind
      → w ≡ before ++ (loop ++ behind) → Changes kinds d c u w
  deletes : (before loop behind : List Letter) → c.insert ≡ false → c.at ≡ length before
      → IsLoop kinds (type_of kinds d before) c.loop loop → u ≡ before ++ (loop ++ behind)
      → w ≡ before ++ behind → Changes kinds d c u w

-- the changes, applied in turn, lead from walk u to walk w
abbrev pub Lead : List TileKind → ℕ × ℕ → List Change → List Letter → List Letter → Type 0
Lead kinds d [] u w = u ≡ w
Lead kinds d (c ∷ changes) u w =
    (v : List Letter) × Changes kinds d c u v × Lead kinds d changes v w

-- two walks from d are related: some finite list of changes leads from one to the other
abbrev pub AreRelated : List TileKind → ℕ × ℕ → List Letter → List Letter → Type 0
AreRelated kinds d u w = (changes : List Change) × Lead kinds d changes u w

-- Two walks from d are at the same tile: the first, followed by some letters L fewer than the tile
-- has sides, is related to the second.
pub record AreAtSameTile (kinds : List TileKind) (d : ℕ × ℕ) (u w : List Letter) : Type 0 where
  pub turns : ℕ
  pub fewer : turns < sides kinds (type_of kinds d u)
  pub related : AreRelated kinds d (u ++ replicate turns L) w

-- n is the least number of crossings of a walk that leads from the tile of u to the tile of w
pub record IsDistance (kinds : List TileKind) (d : ℕ × ℕ) (u w : List Letter) (n : ℕ) : Type 0 where
  pub attained : (z : List Letter) × (crossings z ≡ n) × AreAtSameTile kinds d (u ++ z) w
  pub least : (z : List Letter) → AreAtSameTile kinds d (u ++ z) w → n ≤ crossings z
