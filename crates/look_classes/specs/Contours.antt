-- The contour of the tree backwards, and what is known of darts that were met on it: for the code
-- alone; the definitions of a key edge are in Places.
use Rattle.std.specs.Prelude.{◌≡◌, ℕ, suc, ◌+◌, ◌*◌, ◌<◌, ◌==◌, ◌&&◌, ◌||◌, nat_lt, is_some, List, length, slice_index_or, Bool, false, Option, None, IsSome, if◌then◌else◌}
use Rattle.std.specs.Option.{unwrap_or}
use Rattle.coincidence.specs.Cells.{IsLive}
use Rattle.coincidence.specs.Darts.{pack, unpack}
use Rattle.coincidence.specs.Tables.{joined_to}
use Rattle.region_grower.specs.Ways.{IsDart}
use Rattle.region_grower.specs.Regions.{RegionState}
use Rattle.look_classes.specs.declared.contour.Met.{Met}
use Rattle.look_classes.specs.Tree.{right_of, in_tree, parent_side}
use Rattle.look_classes.specs.Places.{contour, is_key}

-- the parent side of each live cell
pub record AreParents (r : RegionState) (parents : List (Option ℕ)) : Type 0 where
  pub long : length parents ≡ length r.table.origins
  pub sides : (c : ℕ) → IsLive r.table.cells c → slice_index_or parents c None ≡ parent_side r c

-- one step of the leftward contour, backwards: across where the side is in the tree, and to the
-- next one to the right
abbrev pub contour_back : RegionState → ℕ × ℕ → ℕ × ℕ
contour_back r d = if in_tree r d
    then right_of r (unwrap_or (joined_to r.table d) d)
    else right_of r d

-- what stands for a dart that was not met
abbrev pub not_met : Met
not_met = record { end = 0; steps = 0 }

abbrev pub met_at : List Met → ℕ × ℕ → Met
met_at met d = slice_index_or met (pack d) not_met

-- one more than the number of steps, or 0 where the dart was not met
abbrev pub steps_at : List Met → ℕ × ℕ → ℕ
steps_at met d = (met_at met d).steps

abbrev pub end_at : List Met → ℕ × ℕ → ℕ × ℕ
end_at met d = unpack (met_at met d).end

-- From a dart k steps of the contour lead to an end, and before it all darts are joined.
pub record LeadsTo (r : RegionState) (d u : ℕ × ℕ) (k : ℕ) : Type 0 where
  pub dart : IsDart r.table u
  pub comes : contour k r d ≡ u
  pub joined : (j : ℕ) → j < k → IsSome (joined_to r.table (contour j r d))

-- What holds of the darts that were met. Each leads to its end; a dart is met with the one after
-- it, and has its end where it is joined.
pub record AreMet (r : RegionState) (met : List Met) : Type 0 where
  pub long : length met ≡ 64 * length r.table.origins
  pub leads : (d : ℕ × ℕ) (k : ℕ) → IsDart r.table d → steps_at met d ≡ suc k
      → LeadsTo r d (end_at met d) k
  pub back : (d : ℕ × ℕ) → IsDart r.table d → 0 < steps_at met d
      → 0 < steps_at met (contour_back r d)
  pub ends : (d : ℕ × ℕ) → IsDart r.table d → 0 < steps_at met d
      → IsSome (joined_to r.table (contour_back r d))
      → end_at met (contour_back r d) ≡ end_at met d

-- each dart that is not joined was met
abbrev pub AllOpenMet : RegionState → List Met → Type 0
AllOpenMet r met = (d : ℕ × ℕ) → IsDart r.table d → joined_to r.table d ≡ None → 0 < steps_at met d

-- each dart was met
abbrev pub AllMet : RegionState → List Met → Type 0
AllMet r met = (d : ℕ × ℕ) → IsDart r.table d → 0 < steps_at met d

-- what was met is met
abbrev pub StayMet : List Met → List Met → Type 0
StayMet before after = (d : ℕ × ℕ) → 0 < steps_at before d → 0 < steps_at after d

-- whether each dart is at place 0
pub record AreKeys (r : RegionState) (keys : List Bool) : Type 0 where
  pub long : length keys ≡ 64 * length r.table.origins
  pub tells : (d : ℕ × ℕ) → IsDart r.table d → slice_index_or keys (pack d) false ≡ is_key r d

-- what is known of a dart, where `last` is known of the one after it
abbrev pub met_before : RegionState → ℕ × ℕ → Met → Met
met_before r d last = if is_some (joined_to r.table d)
    then record { end = last.end; steps = last.steps + 1 }
    else record { end = pack d; steps = 1 }

-- whether the contour of a dart comes to another one, by what is known of the two
abbrev pub comes_over : RegionState → List Met → ℕ × ℕ → ℕ × ℕ → Bool
comes_over r met d e = ((met_at met d).end == (met_at met e).end)
    && (nat_lt (steps_at met e) (steps_at met d) || is_some (joined_to r.table (end_at met d)))
