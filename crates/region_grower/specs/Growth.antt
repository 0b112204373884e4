-- How a table grows: cells are made and renamed, and what was joined stays joined.
use Rattle.std.specs.Prelude.{◌≡◌, ℕ, ◌<◌, ◌≤◌, List, ◌++◌, length, Some}
use Rattle.coincidence.specs.declared.origin.Origin.{Origin}
use Rattle.coincidence.specs.Cells.{IsLive, name}
use Rattle.coincidence.specs.Followed.{HasFallen}
use Rattle.coincidence.specs.Tables.{JoinTable, joined_to}
use Rattle.region_grower.specs.Ways.{IsDart}
use Rattle.region_grower.specs.Corners.{IsWhole}

-- a list goes on another one
pub record Continues (before after : List Origin) : Type 0 where
  pub rest : List Origin
  pub whole : after ≡ before ++ rest

-- Cells were made behind those that were there, and cells were renamed. Where cells come from
-- stays. Names are composed. Two darts that were joined are joined, as they are now named. Of the
-- cells that were there none comes back to life, and their turns fall to divisors.
pub record HasGrown (t t' : JoinTable) : Type 0 where
  pub kinds : t'.kinds ≡ t.kinds
  pub origins : Continues t.origins t'.origins
  pub names : (d : ℕ × ℕ) → d.0 < length t.origins
      → name t'.cells (name t.cells d) ≡ name t'.cells d
  pub kept : (a b : ℕ × ℕ) → joined_to t a ≡ Some b → joined_to t' (name t'.cells a)
      ≡ Some (name t'.cells b)
  pub turns : (c : ℕ) → c < length t.origins → IsLive t'.cells c → HasFallen t.cells t'.cells c

-- The corners of the cells below n are whole, so nothing is left to do there.
pub record AreWhole (t : JoinTable) (n : ℕ) : Type 0 where
  pub made : n ≤ length t.origins
  pub whole : (d : ℕ × ℕ) → IsDart t d → d.0 < n → IsWhole t d
