-- How many tiles there are of some sort, by walks alone.
use Rattle.std.specs.Prelude.{◌≡◌, ℕ, ◌<◌, List, [], length, slice_index_or}
use Rattle.tile_model.specs.declared.Letter.{Letter}
use Rattle.tile_model.specs.Tessellations.{TileKind}
use Rattle.tile_model.specs.Relation.{AreAtSameTile, IsDistance}

-- a walk of a list
abbrev pub walk_at : List (List Letter) → ℕ → List Letter
walk_at walks i = slice_index_or walks i []

-- Exactly n tiles are led to by the walks of a sort: n walks are of this sort, one of them is at the
-- same tile as each walk that is of it, and no two of them are at one tile.
pub record HaveTiles
    (kinds : List TileKind) (d : ℕ × ℕ) (IsOfSort : List Letter → Type 0) (n : ℕ) : Type 0
  where
    pub walks : List (List Letter)
    pub count : length walks ≡ n
    pub of_sort : (i : ℕ) → i < n → IsOfSort (walk_at walks i)
    pub whole :
        (w : List Letter) → IsOfSort w → (i : ℕ) × (i < n) × AreAtSameTile kinds d (walk_at walks i) w
    pub apart :
        (i j : ℕ) → i < n → j < n → AreAtSameTile kinds d (walk_at walks i) (walk_at walks j) → i ≡ j

-- n tiles lie so many crossings away from the tile of the empty walk
abbrev pub LieAway : List TileKind → ℕ × ℕ → (crossings n : ℕ) → Type 0
LieAway kinds d crossings n = HaveTiles kinds d (λ u. IsDistance kinds d [] u crossings) n
