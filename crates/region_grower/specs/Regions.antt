-- What stands of a region, and what a call of `grow` answers.
use Rattle.std.specs.Prelude.{◌≡◌, ℕ, zero, suc, ◌+◌, ◌<◌, ◌≤◌, List, length, slice_index, nat_lt, Option, Some, None, if◌then◌else◌}
use Rattle.coincidence.specs.Cells.{turn_at, IsLive, live_count}
use Rattle.coincidence.specs.Tables.{JoinTable, joined_to, kind_of}
use Rattle.coincidence.specs.Joined.{IsTable}
use Rattle.region_grower.specs.declared.region.Grown.{Grown}
use Rattle.region_grower.specs.declared.region.Grown.TheVariants.{Layer, Full, Closed}
use Rattle.region_grower.specs.Ways.{IsWay, IsWithin, IsRadius, AllWithin, HasOpen, AllJoined}
use Rattle.region_grower.specs.Tiles.{HasTiles}
use Rattle.region_grower.specs.Corners.{AllClosed}
use Rattle.region_grower.specs.Growth.{HasGrown, AreWhole}

-- a region: its cells and joins, the radius of each cell, and the number of its last layer
pub record RegionState : Type 0 where
  pub table : JoinTable
  pub radii : List ℕ
  pub layers : ℕ

-- every live cell has its radius
abbrev pub AreRadii : JoinTable → List ℕ → Type 0
AreRadii t radii = (c : ℕ) → IsLive t.cells c → IsRadius t c (slice_index radii c)

-- a sum over the numbers below n
unfoldable pub total : ℕ → (ℕ → ℕ) → ℕ
total zero f = 0
total (suc n) f = total n f + f n

-- what is left of a dart: two of one that is not joined, one of one that is, nothing of a side that
-- is another dart
abbrev pub left_of_join : Option (ℕ × ℕ) → ℕ
left_of_join None = 2
left_of_join (Some e) = 1

abbrev pub left_at : JoinTable → ℕ → ℕ → ℕ
left_at t c i = if nat_lt i (turn_at t.cells c) then left_of_join (joined_to t (c, i)) else 0

-- what is left of all darts: a number that falls where darts are joined and cells are renamed
abbrev pub unfinished : JoinTable → ℕ
unfinished t = total (length t.origins) (λ c. total 64 (left_at t c))

-- Cells were renamed, and none was made; there is no more left of the darts.
pub record HasClosedOn (t t' : JoinTable) : Type 0 where
  pub grown : HasGrown t t'
  pub origins : t'.origins ≡ t.origins
  pub falls : unfinished t' ≤ unfinished t

-- Some live cell at a distance of at most n has a dart that is not joined.
pub record HasNear (t : JoinTable) (n : ℕ) : Type 0 where
  pub cell : ℕ
  pub live : IsLive t.cells cell
  pub within : IsWithin t n cell
  pub opened : HasOpen t cell

-- A layer: every live cell at distance below r has all its sides joined, some dart of a live cell
-- is not joined, and every corner is closed.
pub record IsLayer (before after : RegionState) (r : ℕ) : Type 0 where
  pub number : r ≡ before.layers + 1
  pub below : r < live_count after.table.cells
  pub layers : after.layers ≡ r
  pub inner : (c n : ℕ) → IsLive after.table.cells c → IsRadius after.table c n → n < r
      → AllJoined after.table c
  pub opened : (c : ℕ) × HasOpen after.table c
  pub corners : AllClosed after.table
  pub within : AllWithin after.table (before.layers + 1)

-- No more cells may be made, though some live cell at a distance of at most the layers before has a
-- dart that is not joined.
pub record IsFull (before after : RegionState) (most m : ℕ) : Type 0 where
  pub number : m ≡ most
  pub made : length after.table.origins ≡ most
  pub near : HasNear after.table before.layers
  pub corners : AllClosed after.table
  pub layers : after.layers ≡ before.layers
  pub within : AllWithin after.table (before.layers + 1)

-- Every dart of the live cells is joined.
pub record IsClosedRegion (before after : RegionState) (n : ℕ) : Type 0 where
  pub layers : after.layers ≡ before.layers
  pub number : n ≡ live_count after.table.cells
  pub joined : (c : ℕ) → IsLive after.table.cells c → AllJoined after.table c
  pub corners : AllClosed after.table
  pub tiles : HasTiles after.table.kinds (kind_of after.table.origins 0, 0) n

abbrev pub IsGrown : RegionState → RegionState → ℕ → Grown → Type 0
IsGrown before after most (Layer r) = IsLayer before after r
IsGrown before after most (Full m) = IsFull before after most m
IsGrown before after most (Closed n) = IsClosedRegion before after n

-- No radius is less than the least number of crossings: so many crossings, where they are fewer
-- than a million, lead to the cell.
abbrev pub AreReached : JoinTable → List ℕ → Type 0
AreReached t radii = (c : ℕ) → c < length radii → slice_index radii c < 1000000
    → IsWay t (slice_index radii c) c

-- across a dart the radius is at most one more
abbrev pub IsRelaxedAt : JoinTable → List ℕ → ℕ × ℕ → Type 0
IsRelaxedAt t radii d = (e : ℕ × ℕ) → joined_to t d ≡ Some e → slice_index radii d.0 < 1000000
    → slice_index radii e.0 ≤ slice_index radii d.0 + 1

-- so it is across each dart of a cell
abbrev pub IsRelaxed : JoinTable → List ℕ → ℕ → Type 0
IsRelaxed t radii c = (i : ℕ) → i < turn_at t.cells c → IsRelaxedAt t radii (c, i)

-- every live cell is reached by so many crossings at most as its radius says
abbrev pub AreNear : JoinTable → List ℕ → Type 0
AreNear t radii = (c : ℕ) → IsLive t.cells c → IsWithin t (slice_index radii c) c

-- What stands while cells are made: no live cell lies farther away than its radius says, nor
-- farther than n + 1.
pub record IsGrowing (t : JoinTable) (radii : List ℕ) (n : ℕ) : Type 0 where
  pub table : IsTable t
  pub long : length t.origins ≤ length radii
  pub first : slice_index radii 0 ≡ 0
  pub near : AreNear t radii
  pub within : AllWithin t (n + 1)

-- The corners of the cells below n are whole, at least so many cells were renamed, and if no more
-- were, then across the darts of the cells below n no radius is over one more.
pub record AreLevel (t : JoinTable) (radii : List ℕ) (n gone : ℕ) : Type 0 where
  pub whole : AreWhole t n
  pub no_fewer : live_count t.cells + gone ≤ length t.origins
  pub relaxed : live_count t.cells + gone ≡ length t.origins → (c : ℕ) → c < n
      → IsLive t.cells c → IsRelaxed t radii c

-- what is level stays so
abbrev pub StayLevel : JoinTable → List ℕ → JoinTable → List ℕ → Type 0
StayLevel t radii t' radii' = (n gone : ℕ) → AreLevel t radii n gone → AreLevel t' radii' n gone

-- What a region keeps between calls: its radii are exact, every corner is closed, and no live cell
-- lies farther away than one more than the layers.
pub record IsRegion (r : RegionState) : Type 0 where
  pub table : IsTable r.table
  pub long : length r.table.origins ≤ length r.radii
  pub radii : AreRadii r.table r.radii
  pub corners : AllClosed r.table
  pub within : AllWithin r.table (r.layers + 1)
  pub few : r.layers < 1000000

-- So it is, and the corners of the cells below n are whole.
pub record IsRegionFrom (r : RegionState) (n : ℕ) : Type 0 where
  pub region : IsRegion r
  pub whole : AreWhole r.table n
