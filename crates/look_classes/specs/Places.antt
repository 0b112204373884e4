-- Places round corners, by the leftward contours of the tree in a region.
use Rattle.std.specs.Prelude.{◌≡◌, ℕ, zero, suc, ◌*◌, ◌<◌, ◌==◌, Bool, false, ◌&&◌, ◌||◌, not, length, Option, None, Some, is_some, IsSome, if◌then◌else◌}
use Rattle.std.specs.Option.{option_map, option_and_then, unwrap_or}
use Rattle.coincidence.specs.Tables.{joined_to}
use Rattle.region_grower.specs.Regions.{RegionState}
use Rattle.region_grower.specs.Corners.{valence_at}
use Rattle.look_classes.specs.declared.rule.SideRule.{SideRule}
use Rattle.look_classes.specs.declared.rule.SideRule.TheVariants.{Parent, Child, Left, Right}
use Rattle.look_classes.specs.Tree.{holds, left_of, right_of, same_dart, parent_side, is_child, in_tree, counted}

-- one step of the leftward contour: to the next side to the left, and across it where it is in the
-- tree
abbrev pub contour_step : RegionState → ℕ × ℕ → ℕ × ℕ
contour_step r d = if in_tree r (left_of r d)
    then unwrap_or (joined_to r.table (left_of r d)) (left_of r d)
    else left_of r d

-- whether the leftward contour of a dart comes to another one within n steps, before it comes to a
-- side that is not joined
unfoldable pub comes_to : ℕ → RegionState → ℕ × ℕ → ℕ × ℕ → Bool
comes_to zero r d e = false
comes_to (suc n) r d e = same_dart (contour_step r d) e
    || (is_some (joined_to r.table (contour_step r d)) && comes_to n r (contour_step r d) e)

-- Whether a dart is at place 0: it is joined and not in the tree, and its leftward contour comes to
-- the dart joined to it before it comes to a side that is not joined. Its side is the key edge of
-- the corner at its left end. A contour of more steps than there are darts has come round.
unfoldable pub is_key : RegionState → ℕ × ℕ → Bool
is_key r d = not (in_tree r d)
    && holds (comes_to (64 * length r.table.origins) r d) (joined_to r.table d)

-- where the leftward contour of a dart is after n steps
unfoldable pub contour : ℕ → RegionState → ℕ × ℕ → ℕ × ℕ
contour zero r d = d
contour (suc n) r d = contour_step r (contour n r d)

-- The same as `is_key`, however long the contour is.
pub record IsKeyEdge (r : RegionState) (d : ℕ × ℕ) : Type 0 where
  pub over : ℕ × ℕ
  pub joined : joined_to r.table d ≡ Some over
  pub outside : in_tree r d ≡ false
  pub steps : ℕ
  pub meets : contour (suc steps) r d ≡ over
  pub before : (n : ℕ) → n < steps → IsSome (joined_to r.table (contour (suc n) r d))

-- one tile back round the corner at the left end of a dart: the dart from which LX leads to it
abbrev pub back : RegionState → ℕ × ℕ → Option (ℕ × ℕ)
back r d = option_map (right_of r) (joined_to r.table d)

-- The place of a dart and its base, where n tiles are looked at, going back: the least number of
-- tiles, and the dart at place 0.
unfoldable pub placed_within : ℕ → RegionState → ℕ × ℕ → Option (ℕ × (ℕ × ℕ))
placed_within zero r d = None
placed_within (suc n) r d = if is_key r d then Some (0, d)
    else option_map (λ b. (suc b.0, b.1)) (option_and_then (placed_within n r) (back r d))

-- The place of a dart: the least number below the valence of LX that lead from a dart at place 0,
-- its base, to it.
abbrev pub placed : RegionState → ℕ × ℕ → Option (ℕ × (ℕ × ℕ))
placed r d = placed_within (valence_at r.table d) r d

abbrev pub place : RegionState → ℕ × ℕ → Option ℕ
place r d = option_map (λ b. b.0) (placed r d)

-- the side next to the right of the base
abbrev pub outer_side : RegionState → ℕ × ℕ → Option (ℕ × ℕ)
outer_side r d = option_map (λ b. right_of r b.1) (placed r d)

-- the rule of a dart that is not counted as 0
abbrev pub other_rule : RegionState → ℕ × ℕ → Option SideRule
other_rule r d = if is_child r d then Some Child
    else if is_key r d then Some Left
    else if holds (is_key r) (joined_to r.table d) then Some Right
    else None

-- the rule of side j of a cell, counted from its parent side
abbrev pub rule_of : RegionState → ℕ → ℕ → Option SideRule
rule_of r c j = if (j == 0) && is_some (parent_side r c) then Some Parent
    else other_rule r (counted r c j)
