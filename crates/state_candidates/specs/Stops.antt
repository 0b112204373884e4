-- On the way round a corner: the darts, and the distances of their cells.
use Rattle.std.specs.Prelude.{◌≡◌, ℕ, ◌+◌, ◌<◌, ◌≤◌, List, ℤ, pos, ◌-ℤ◌, Option, Some, IfSome}
use Rattle.std.specs.Option.{option_map}
use Rattle.coincidence.specs.Cells.{IsLive}
use Rattle.region_grower.specs.Ways.{IsRadius}
use Rattle.region_grower.specs.Corners.{further, rounds}
use Rattle.region_grower.specs.Regions.{RegionState}
use Rattle.look_classes.specs.Tree.{distance}
use Rattle.look_classes.specs.Looks.{each_below}
use Rattle.state_candidates.specs.declared.darts.Stop.{Stop}

-- a dart of a live cell, and the distance of the cell
pub record IsStop (r : RegionState) (d : ℕ × ℕ) (n : ℕ) : Type 0 where
  pub live : IsLive r.table.cells d.0
  pub side : d.1 < 64
  pub value : n ≡ distance r d.0
  pub radius : IsRadius r.table d.0 n
  pub few : n ≤ 1000000

-- one tile further, the distance is one more at most, or one less at least
pub record IsNextStop (r : RegionState) (d : ℕ × ℕ) (n : ℕ) (e : ℕ × ℕ) (m : ℕ) : Type 0 where
  pub stop : IsStop r e m
  pub joined : further r.table d ≡ Some e
  pub more : m ≤ n + 1
  pub less : n ≤ m + 1

-- the distance of the cell that LX repeated j times reaches, less that of the base's cell
abbrev pub offset_at : RegionState → ℕ × ℕ → ℕ → Option ℤ
offset_at r b j =
    option_map (λ e. pos (distance r e.0) -ℤ pos (distance r b.0)) (rounds j r.table b)

-- The way round a corner has come to a stop, or to a dart that is not joined, after j times LX, by
-- one in distance a time at most, and the first j distances stand.
pub record IsOnWay (r : RegionState) (b : ℕ × ℕ) (near j : ℕ) (offsets : List ℤ)
    (at : Option Stop) :
    Type 0 where
  pub base : IsStop r b near
  pub all : each_below j (offset_at r b) ≡ Some offsets
  pub come : rounds j r.table b ≡ option_map (λ s. s.dart) at
  pub stop : IfSome at (λ s. IsStop r s.dart s.distance)
  pub more : IfSome at (λ s. s.distance ≤ near + j)
  pub less : IfSome at (λ s. near ≤ s.distance + j)
