-- The regions that calls of `start` and `grow` answer.
use Rattle.std.specs.Prelude.{◌≡◌, ℕ, ◌≤◌, List, length}
use Rattle.tile_model.specs.Tessellations.{TileKind}
use Rattle.coincidence.specs.Joined.{IsFirst}
use Rattle.region_grower.specs.declared.region.Grown.{Grown}
use Rattle.region_grower.specs.Growth.{HasGrown}
use Rattle.region_grower.specs.Regions.{RegionState, IsRegion, IsGrown}

-- What `start` answers: the region of one cell, of a kind, of whose sides none is joined.
pub record IsStarted (kinds : List TileKind) (k : ℕ) (r : RegionState) : Type 0 where
  pub first : IsFirst kinds k r.table
  pub layers : r.layers ≡ 0
  pub region : IsRegion r

-- What a call of `grow` that has an answer makes of a region.
pub record HasGrownOn (before after : RegionState) : Type 0 where
  pub most : ℕ
  pub answer : Grown
  pub grown : IsGrown before after most answer
  pub kept : HasGrown before.table after.table
  pub made : length after.table.origins ≤ most
  pub region : IsRegion after

-- A region of a tessellation that `start` at a tile of kind k and calls of `grow` behind it answer.
pub data IsGrownFrom (kinds : List TileKind) (k : ℕ) : RegionState → Type 0 where
  started : (r : RegionState) → IsStarted kinds k r → IsGrownFrom kinds k r
  grown_on : (before after : RegionState) → IsGrownFrom kinds k before → HasGrownOn before after
      → IsGrownFrom kinds k after
