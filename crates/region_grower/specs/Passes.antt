-- What a pass over darts leaves: it changed something, and what is left has fallen, or it changed
-- nothing, and found all done.
use Rattle.std.specs.Prelude.{◌≡◌, ℕ, ◌<◌, Bool, true, false, List, length, slice_index, sum}
use Rattle.coincidence.specs.Tables.{JoinTable}
use Rattle.coincidence.specs.Joined.{IsTable}
use Rattle.region_grower.specs.Regions.{unfinished, HasClosedOn, AreReached}

-- a pass that closes corners
pub record HasPassed (t t' : JoinTable) (changed : Bool) (IsDone : JoinTable
    → Type 0) : Type 0 where
  pub table : IsTable t'
  pub moved : HasClosedOn t t'
  pub falls : changed ≡ true → unfinished t' < unfinished t
  pub unchanged : changed ≡ false → t' ≡ t
  pub done : changed ≡ false → IsDone t

-- a pass that lowers radii
pub record HasLowered (t : JoinTable) (radii radii' : List ℕ) (changed : Bool) (IsDone : List ℕ
    → Type 0) : Type 0 where
  pub long : length radii' ≡ length radii
  pub reached : AreReached t radii → AreReached t radii'
  pub first : slice_index radii 0 ≡ 0 → slice_index radii' 0 ≡ 0
  pub falls : changed ≡ true → sum radii' < sum radii
  pub unchanged : changed ≡ false → radii' ≡ radii
  pub done : changed ≡ false → IsDone radii
