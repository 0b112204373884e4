-- The first broken condition: at which places each condition is read, in which order, and at which
-- of them one fails first.
use Rattle.std.specs.Prelude.{◌≡◌, ℕ, ◌<◌, ◌≤◌, ◌⊎◌, List, length, nat_eq, nat_lt, if◌then◌else◌, MatchBool, ⊤}
use Rattle.tile_model.specs.Tessellations.{TileKind}
use Rattle.tree_model.specs.Automata.{TreeAutomaton, side_count}
use Rattle.tree_model.specs.Conditions.{HasLimits, HasRootState, HasOffsets, HasOuter, HasTables, HasTargets, HasParentRule, HasChildType, HasClaimValence, HasFirstPlace, HasLastPlace, HasOuterBefore, HasOuterBehind, KeepsClaims, HasOneChange, HasSmallChange, HasFallingCycles}

-- C1 has six parts. The number of indices at which a part is read: part 0 at 0 alone, part 1 at
-- each kind, parts 2 and 3 at each corner type, parts 4 and 5 at each state.
abbrev pub part_size : List TileKind → TreeAutomaton → ℕ → ℕ
part_size kinds a part =
    if nat_eq part 0 then 1
    else if nat_eq part 1 then length kinds
    else if nat_lt part 4 then length a.corners
    else length a.states

-- a part of C1 holds at an index
unfoldable pub PartHolds : List TileKind → TreeAutomaton → ℕ → ℕ → Type 0
PartHolds kinds a part index =
    MatchBool (nat_eq part 0) (HasLimits kinds a) (
    MatchBool (nat_eq part 1) (HasRootState a index) (
    MatchBool (nat_eq part 2) (HasOffsets a index) (
    MatchBool (nat_eq part 3) (HasOuter a index) (
    MatchBool (nat_eq part 4) (HasTables kinds a index) (
    MatchBool (nat_eq part 5) (HasTargets kinds a index) ⊤)))))

-- Condition c holds at the place (first, second).
unfoldable pub Holds : List TileKind → TreeAutomaton → ℕ → ℕ → ℕ → Type 0
Holds kinds a c first second =
    MatchBool (nat_eq c 1) (PartHolds kinds a second first) (
    MatchBool (nat_eq c 2) (HasParentRule kinds a first second) (
    MatchBool (nat_eq c 3) (HasChildType kinds a first second) (
    MatchBool (nat_eq c 4) (HasClaimValence kinds a first second) (
    MatchBool (nat_eq c 5) (HasFirstPlace a first second) (
    MatchBool (nat_eq c 6) (HasLastPlace kinds a first second) (
    MatchBool (nat_eq c 7) (HasOuterBefore kinds a first second) (
    MatchBool (nat_eq c 8) (HasOuterBehind kinds a first second) (
    MatchBool (nat_eq c 9) (KeepsClaims kinds a first second) (
    MatchBool (nat_eq c 10) (HasOneChange a first) (
    MatchBool (nat_eq c 11) (HasSmallChange a first) (
    MatchBool (nat_eq c 12) (HasFallingCycles a first) ⊤)))))))))))

-- (first, second) is a place at which condition c is read: of C1 an index and a part, of C2 to C9 a
-- state and a side or claim of it, of C10 to C12 a corner type and 0.
pub record IsReadAt (kinds : List TileKind) (a : TreeAutomaton) (c first second : ℕ) : Type 0 where
  pub number : (1 ≤ c) × (c ≤ 12)
  pub part : c ≡ 1 → (second ≤ 5) × (first < part_size kinds a second)
  pub side : 2 ≤ c → c ≤ 9 → (first < length a.states) × (second < side_count kinds a first)
  pub corner : 10 ≤ c → (first < length a.corners) × (second ≡ 0)

-- Of two places of condition c the one that is read first, (f, s) before (first, second): of C1 by
-- part and then by index, of the others by state or corner type and then by side or claim.
pub record IsReadBefore (c f s first second : ℕ) : Type 0 where
  pub part : c ≡ 1 → (s < second) ⊎ ((s ≡ second) × (f < first))
  pub other : 2 ≤ c → (f < first) ⊎ ((f ≡ first) × (s < second))

-- Condition c is the least that is broken, and (first, second) is its least place: it fails there,
-- it holds at the places before, and all conditions before it hold everywhere.
pub record IsFirstBroken (kinds : List TileKind) (a : TreeAutomaton)
    (c first second : ℕ) : Type 0 where
  pub place : IsReadAt kinds a c first second
  pub fails : ¬ (Holds kinds a c first second)
  pub places_before : (f s : ℕ) → IsReadAt kinds a c f s → IsReadBefore c f s first second
      → Holds kinds a c f s
  pub conditions_before : (b f s : ℕ) → b < c → IsReadAt kinds a b f s → Holds kinds a b f s
