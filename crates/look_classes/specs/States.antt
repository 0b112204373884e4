-- What a search for looks stands at: a region, and the horizon that it has come to.
use Rattle.std.specs.Prelude.{ℕ}
use Rattle.region_grower.specs.Regions.{RegionState}

pub record LooksState : Type 0 where
  pub region : RegionState
  pub horizon : ℕ
