-- What a growing region finds when its corners are closed and its radii are measured.
use Rattle.std.specs.Prelude.{◌≡◌, ℕ, ◌+◌, ◌<◌, ◌≤◌, List, length, slice_index, None}
use Rattle.coincidence.specs.Tables.{JoinTable, joined_to}
use Rattle.coincidence.specs.Joined.{IsTable}
use Rattle.region_grower.specs.declared.growth.Answer.{Answer}
use Rattle.region_grower.specs.declared.growth.Answer.TheVariants.{Closed, Layer, Full, Open}
use Rattle.region_grower.specs.Ways.{IsWithin, AllWithin, IsDart, IsJoined, HasOpen}
use Rattle.region_grower.specs.Corners.{AllClosed}
use Rattle.region_grower.specs.Growth.{AreWhole}
use Rattle.region_grower.specs.Regions.{AreRadii}

-- a dart that is not joined, of a live cell at a distance of at most n
pub record IsOpenDart (t : JoinTable) (n : ℕ) (d : ℕ × ℕ) : Type 0 where
  pub dart : IsDart t d
  pub unjoined : joined_to t d ≡ None
  pub near : IsWithin t n d.0

-- a dart that is not joined, of a live cell whose radius is at most n
pub record IsWanted (t : JoinTable) (radii : List ℕ) (n : ℕ) (d : ℕ × ℕ) : Type 0 where
  pub dart : IsDart t d
  pub unjoined : joined_to t d ≡ None
  pub near : slice_index radii d.0 ≤ n

-- all darts of the live cells at distances of at most n are joined
abbrev pub AreInnerJoined : JoinTable → ℕ → Type 0
AreInnerJoined t n = (d : ℕ × ℕ) → IsDart t d → IsWithin t n d.0 → IsJoined t d

abbrev pub IsAnswer : JoinTable → ℕ → ℕ → Answer → Type 0
IsAnswer t n most Closed = (d : ℕ × ℕ) → IsDart t d → IsJoined t d
IsAnswer t n most Layer = ((c : ℕ) × HasOpen t c) × AreInnerJoined t n
IsAnswer t n most Full = ((d : ℕ × ℕ) × IsOpenDart t n d) × (length t.origins ≡ most)
IsAnswer t n most (Open d) = IsOpenDart t n d × (length t.origins < most)

-- The corners are closed, those of the cells below so many are whole, the radii are measured, and
-- no live cell lies farther away than n + 1.
pub record IsReady (t : JoinTable) (radii : List ℕ) (n whole : ℕ) : Type 0 where
  pub table : IsTable t
  pub long : length t.origins ≤ length radii
  pub measured : AreRadii t radii
  pub corners : AllClosed t
  pub whole_corners : AreWhole t whole
  pub within : AllWithin t (n + 1)
