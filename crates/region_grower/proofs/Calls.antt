-- What calls of `start` and `grow` answer is a region that they can answer.
use Rattle.std.proofs.Common.{◌≡◌, ℕ, ◌<◌, ◌≤◌, List, length, subst}
use Rattle.tile_model.specs.Tessellations.{TileKind}
use Rattle.region_grower.specs.declared.region.Grown.{Grown}
use Rattle.region_grower.specs.Growth.{HasGrown}
use Rattle.region_grower.specs.Regions.{RegionState, IsRegion, IsGrown}
use Rattle.region_grower.specs.Answers.{IsReady}
use Rattle.region_grower.specs.Calls.{IsGrownFrom, grown_on}

-- a region whose layers stay
pub stays_region : (r : RegionState) (whole : ℕ) → r.layers < 1000000 → IsReady r.table r.radii r.layers whole → IsRegion r
stays_region r whole few ready = record {
  table = ready.table;
  long = ready.long;
  radii = ready.measured;
  corners = ready.corners;
  within = ready.within;
  few = few;
}

-- One call more. `inside` is the region before as its fields have it.
pub goes_on : (before inside after : RegionState) (most : ℕ) (answer : Grown) → inside ≡ before → HasGrown inside.table after.table
    → length after.table.origins ≤ most → IsRegion after → IsGrown before after most answer
    → (kinds : List TileKind) (k : ℕ) → IsGrownFrom kinds k before → IsGrownFrom kinds k after
goes_on before inside after most answer same kept made region grown kinds k from = grown_on before after from (record {
  most = most;
  answer = answer;
  grown = grown;
  kept = subst (λ v. HasGrown v.table after.table) same kept;
  made = made;
  region = region;
})
