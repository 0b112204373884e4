-- The search for the first broken place: what has been found to hold so far, and what each check
-- stands on.
use Rattle.std.specs.Prelude.{◌≡◌, ℕ, ◌<◌, ◌≤◌, List, length, slice_index_or, ℤ, pos, nat_abs}
use Rattle.tile_model.specs.Tessellations.{TileKind}
use Rattle.tree_model.specs.declared.Rule.TheVariants.{Child}
use Rattle.tree_model.specs.declared.Claim.{Claim}
use Rattle.tree_model.specs.Automata.{TreeAutomaton, side_count, rule_at, claim_at, corner_valence}
use Rattle.tree_model.specs.Conditions.{AtEverySide, AtEveryCorner, HasLimits, HasOffsets, HasOuter, HasTables, HasParentRule, HasChildType, HasClaimValence, HasFirstPlace, HasLastPlace, HasOuterBefore, HasOuterBehind, KeepsClaims, HasOneChange, HasSmallChange}
use Rattle.structure_check.specs.Broken.{IsReadAt, Holds, PartHolds, part_size}
use Rattle.structure_check.specs.declared.table.TablePart.{TablePart}
use Rattle.structure_check.specs.declared.table.TablePart.TheVariants.{Limits, Roots, Offsets, Outers, Sizes, Targets}
use Rattle.structure_check.specs.declared.sides.SideCondition.{SideCondition}
use Rattle.structure_check.specs.declared.sides.SideCondition.TheVariants.{Parents, ChildTypes, Valences, FirstPlaces, LastPlaces, OutersBefore, OutersBehind, ChildClaims}
use Rattle.structure_check.specs.declared.corners.CornerCondition.{CornerCondition}
use Rattle.structure_check.specs.declared.corners.CornerCondition.TheVariants.{OneChange, SmallChange}

-- all conditions with numbers below c hold everywhere
abbrev pub HoldBelow : List TileKind → TreeAutomaton → ℕ → Type 0
HoldBelow kinds a c = (b f s : ℕ) → b < c → IsReadAt kinds a b f s → Holds kinds a b f s

-- all parts of C1 with numbers below p hold everywhere
abbrev pub PartsBelow : List TileKind → TreeAutomaton → ℕ → Type 0
PartsBelow kinds a p =
    (part index : ℕ) → part < p → index < part_size kinds a part → PartHolds kinds a part index

abbrev pub part_number : TablePart → ℕ
part_number Limits = 0
part_number Roots = 1
part_number Offsets = 2
part_number Outers = 3
part_number Sizes = 4
part_number Targets = 5

-- no offset is over 64 in absolute value
abbrev pub AreSmall : List ℤ → Type 0
AreSmall offsets = (t : ℕ) → t < length offsets → nat_abs (slice_index_or offsets t (pos 0)) ≤ 64

-- the rule and the claim of side i of state s name states, corner types and places that are there
pub record HasTargetsAt (a : TreeAutomaton) (s i : ℕ) : Type 0 where
  pub child : (c : ℕ) → rule_at a s i ≡ Child c → c < length a.states
  pub corner : (claim_at a s i).corner < length a.corners
  pub place : (claim_at a s i).place < corner_valence a (claim_at a s i).corner

-- a claim names a corner type and a place of it, one of 64 at most
pub record IsClaim (a : TreeAutomaton) (claim : Claim) : Type 0 where
  pub corner : claim.corner < length a.corners
  pub place : claim.place < corner_valence a claim.corner
  pub few : corner_valence a claim.corner ≤ 64

-- what the check of a part stands on
abbrev pub IsPartReady : TablePart → List TileKind → TreeAutomaton → Type 0
IsPartReady Limits kinds a = Unit {0}
IsPartReady Targets kinds a =
    HasLimits kinds a × ((s : ℕ) → s < length a.states → HasTables kinds a s)
IsPartReady _ kinds a = HasLimits kinds a

abbrev pub side_number : SideCondition → ℕ
side_number Parents = 2
side_number ChildTypes = 3
side_number Valences = 4
side_number FirstPlaces = 5
side_number LastPlaces = 6
side_number OutersBefore = 7
side_number OutersBehind = 8
side_number ChildClaims = 9

-- a condition on a side or claim holds at it
abbrev pub SideHolds : SideCondition → List TileKind → TreeAutomaton → ℕ → ℕ → Type 0
SideHolds Parents kinds a s i = HasParentRule kinds a s i
SideHolds ChildTypes kinds a s i = HasChildType kinds a s i
SideHolds Valences kinds a s i = HasClaimValence kinds a s i
SideHolds FirstPlaces kinds a s i = HasFirstPlace a s i
SideHolds LastPlaces kinds a s i = HasLastPlace kinds a s i
SideHolds OutersBefore kinds a s i = HasOuterBefore kinds a s i
SideHolds OutersBehind kinds a s i = HasOuterBehind kinds a s i
SideHolds ChildClaims kinds a s i = KeepsClaims kinds a s i

-- what the check of such a condition stands on, beside a closed table
abbrev pub IsSideReady : SideCondition → List TileKind → TreeAutomaton → Type 0
IsSideReady ChildClaims kinds a =
    AtEverySide kinds a (HasFirstPlace a) × AtEverySide kinds a (HasLastPlace kinds a)
IsSideReady _ kinds a = Unit {0}

-- it holds at the sides of state s below n
abbrev pub SidesBelow : SideCondition → List TileKind → TreeAutomaton → ℕ → ℕ → Type 0
SidesBelow c kinds a s n = (i : ℕ) → i < n → SideHolds c kinds a s i

-- it holds at all sides of the states below n
abbrev pub StatesBelow : SideCondition → List TileKind → TreeAutomaton → ℕ → Type 0
StatesBelow c kinds a n = (s i : ℕ) → s < n → i < side_count kinds a s → SideHolds c kinds a s i

-- what the checks of corner types stand on
pub record HasCorners (a : TreeAutomaton) : Type 0 where
  pub count : length a.corners ≤ 20000
  pub offsets : AtEveryCorner a (HasOffsets a)
  pub outer : AtEveryCorner a (HasOuter a)

abbrev pub corner_number : CornerCondition → ℕ
corner_number OneChange = 10
corner_number SmallChange = 11

-- a condition on a corner type holds of it
abbrev pub CornerHolds : CornerCondition → TreeAutomaton → ℕ → Type 0
CornerHolds OneChange a g = HasOneChange a g
CornerHolds SmallChange a g = HasSmallChange a g

-- it holds of the corner types below n
abbrev pub CornersBelow : CornerCondition → TreeAutomaton → ℕ → Type 0
CornersBelow c a n = (g : ℕ) → g < n → CornerHolds c a g
