-- The twelve conditions on an automaton over a tessellation. Each is read at one place, and each is
-- asked of all places: of every state, side, claim, corner type and root, whether the tree reaches
-- it or not. A condition is read where those before it hold.
use Rattle.std.specs.Prelude.{◌≡◌, ℕ, suc, ◌-◌, ◌<◌, ◌≤◌, ◌↔◌, List, length, Contains, pos, negsuc, ◌+ℤ◌, ◌-ℤ◌, ◌<ℤ◌, ◌≤ℤ◌, nat_abs}
use Rattle.tile_model.specs.Tessellations.{TileKind, kind_at, cross, valence}
use Rattle.tree_model.specs.declared.Rule.TheVariants.{Parent, Child, Left, Right}
use Rattle.tree_model.specs.OuterLinks.{led, entered_sum}
use Rattle.tree_model.specs.Automata.{TreeAutomaton, state_at, root_at, rule_at, claim_at, offset, corner_valence, outer, side_count, type_at, next, previous, further}

-- s is the root state of some kind
abbrev pub IsRoot : TreeAutomaton → ℕ → Type 0
IsRoot a s = Contains a.roots s

-- C1, part 0: there are 1 to 100,000 states and 1 to 20,000 corner types, and as many roots as
-- kinds
pub record HasLimits (kinds : List TileKind) (a : TreeAutomaton) : Type 0 where
  pub states : (1 ≤ length a.states) × (length a.states ≤ 100000)
  pub corners : (1 ≤ length a.corners) × (length a.corners ≤ 20000)
  pub roots : length a.roots ≡ length kinds

-- C1, part 1, of a kind: its root is a state
abbrev pub HasRootState : TreeAutomaton → ℕ → Type 0
HasRootState a k = root_at a k < length a.states

-- C1, part 2, of a corner type: it has 3 to 64 offsets, the first is 0, and none is over 64 in
-- absolute value
pub record HasOffsets (a : TreeAutomaton) (g : ℕ) : Type 0 where
  pub count : (3 ≤ corner_valence a g) × (corner_valence a g ≤ 64)
  pub first : offset a g 0 ≡ pos 0
  pub small : (t : ℕ) → t < corner_valence a g → nat_abs (offset a g t) ≤ 64

-- C1, part 3, of a corner type: its outer is a corner type, and the place of outer plus 1 is below
-- that type's valence
abbrev pub HasOuter : TreeAutomaton → ℕ → Type 0
HasOuter a g =
    ((outer a g).corner < length a.corners)
    × (suc (outer a g).place < corner_valence a (outer a g).corner)

-- C1, part 4, of a state: its kind is a kind, off is below the repeat, and it has a rule and a
-- claim for each side
pub record HasTables (kinds : List TileKind) (a : TreeAutomaton) (s : ℕ) : Type 0 where
  pub kind : (state_at a s).kind < length kinds
  pub off : (state_at a s).off < (kind_at kinds (state_at a s).kind).repeat
  pub rules : length (state_at a s).rules ≡ side_count kinds a s
  pub claims : length (state_at a s).claims ≡ side_count kinds a s

-- C1, part 5, of a state: each Child names a state, and each claim names a corner type and a place
-- of it
pub record HasTargets (kinds : List TileKind) (a : TreeAutomaton) (s : ℕ) : Type 0 where
  pub child : (i c : ℕ) → i < side_count kinds a s → rule_at a s i ≡ Child c → c < length a.states
  pub claim : (i : ℕ) → i < side_count kinds a s
      → ((claim_at a s i).corner < length a.corners)
      × ((claim_at a s i).place < corner_valence a (claim_at a s i).corner)

-- C1: whatever a table names is there
pub record IsClosedTable (kinds : List TileKind) (a : TreeAutomaton) : Type 0 where
  pub limits : HasLimits kinds a
  pub root : (k : ℕ) → k < length kinds → HasRootState a k
  pub offsets : (g : ℕ) → g < length a.corners → HasOffsets a g
  pub outer : (g : ℕ) → g < length a.corners → HasOuter a g
  pub tables : (s : ℕ) → s < length a.states → HasTables kinds a s
  pub targets : (s : ℕ) → s < length a.states → HasTargets kinds a s

-- C2, of side i of state s: a root of kind k has kind k and off 0 (read at side 0); a rule is
-- Parent exactly at side 0 of a state that is no root; no Child is a root
pub record HasParentRule (kinds : List TileKind) (a : TreeAutomaton) (s i : ℕ) : Type 0 where
  pub root : i ≡ 0 → (k : ℕ) → k < length kinds → root_at a k ≡ s
      → ((state_at a s).kind ≡ k) × ((state_at a s).off ≡ 0)
  pub parent : (rule_at a s i ≡ Parent) ↔ ((i ≡ 0) × (¬ (IsRoot a s)))
  pub child : (c : ℕ) → rule_at a s i ≡ Child c → ¬ (IsRoot a c)

-- C3, of side i of state s: where it is Child of c, its partner is side 0 of c
abbrev pub HasChildType : List TileKind → TreeAutomaton → ℕ → ℕ → Type 0
HasChildType kinds a s i =
    (c : ℕ) → rule_at a s i ≡ Child c
    → cross kinds (type_at kinds a s i) ≡ ((state_at a c).kind, (state_at a c).off)

-- C4, of claim i of state s: its corner type has the valence of side i
abbrev pub HasClaimValence : List TileKind → TreeAutomaton → ℕ → ℕ → Type 0
HasClaimValence kinds a s i =
    corner_valence a (claim_at a s i).corner ≡ valence kinds (type_at kinds a s i)

-- C5, of claim i of state s: its place is 0 exactly where side i is Left
abbrev pub HasFirstPlace : TreeAutomaton → ℕ → ℕ → Type 0
HasFirstPlace a s i = ((claim_at a s i).place ≡ 0) ↔ (rule_at a s i ≡ Left)

-- C6, of claim i of state s: its place is the last one exactly where side i + 1 is Right
abbrev pub HasLastPlace : List TileKind → TreeAutomaton → ℕ → ℕ → Type 0
HasLastPlace kinds a s i =
    (suc (claim_at a s i).place ≡ corner_valence a (claim_at a s i).corner)
    ↔ (rule_at a s (next (side_count kinds a s) i) ≡ Right)

-- C7, of side i of state s: where it is Left, claim i - 1 is the outer of claim i's corner type
abbrev pub HasOuterBefore : List TileKind → TreeAutomaton → ℕ → ℕ → Type 0
HasOuterBefore kinds a s i =
    rule_at a s i ≡ Left
    → claim_at a s (previous (side_count kinds a s) i) ≡ outer a (claim_at a s i).corner

-- C8, of side i of state s: where it is Right, claim i is the outer of the corner type of
-- claim i - 1, with 1 added to its place
abbrev pub HasOuterBehind : List TileKind → TreeAutomaton → ℕ → ℕ → Type 0
HasOuterBehind kinds a s i =
    rule_at a s i ≡ Right
    → claim_at a s i ≡ further (outer a (claim_at a s (previous (side_count kinds a s) i)).corner)

-- C9, of side i of state s, where it is Child of c. Claim 0 of c is claim i - 1 with 1 added to its
-- place, and there the child lies one deeper. Claim i is the last claim of c with 1 added to its
-- place, and before that place the child lies one deeper.
pub record HasChildClaims (kinds : List TileKind) (a : TreeAutomaton) (s i c : ℕ) : Type 0 where
  pub first : claim_at a c 0 ≡ further (claim_at a s (previous (side_count kinds a s) i))
  pub first_depth :
      offset a (claim_at a s (previous (side_count kinds a s) i)).corner
      (suc (claim_at a s (previous (side_count kinds a s) i)).place)
      ≡ offset a (claim_at a s (previous (side_count kinds a s) i)).corner
      (claim_at a s (previous (side_count kinds a s) i)).place +ℤ pos 1
  pub last : claim_at a s i ≡ further (claim_at a c (side_count kinds a c - 1))
  pub last_depth : offset a (claim_at a s i).corner ((claim_at a s i).place - 1)
      ≡ offset a (claim_at a s i).corner (claim_at a s i).place +ℤ pos 1

abbrev pub KeepsClaims : List TileKind → TreeAutomaton → ℕ → ℕ → Type 0
KeepsClaims kinds a s i = (c : ℕ) → rule_at a s i ≡ Child c → HasChildClaims kinds a s i c

-- C10, of a corner type: across the key edge the depth changes by as much seen from its outer
-- corner as seen from itself
abbrev pub HasOneChange : TreeAutomaton → ℕ → Type 0
HasOneChange a g =
    offset a (outer a g).corner (suc (outer a g).place)
    -ℤ offset a (outer a g).corner (outer a g).place
    ≡ offset a g (corner_valence a g - 1) -ℤ offset a g 0

-- C11, of a corner type: that change is -1, 0 or 1
abbrev pub HasSmallChange : TreeAutomaton → ℕ → Type 0
HasSmallChange a g =
    (negsuc 0 ≤ℤ offset a g (corner_valence a g - 1))
    × (offset a g (corner_valence a g - 1) ≤ℤ pos 1)

-- C12, of a corner type: along each cycle of outer links that leads from it back to it, the offsets
-- at which corner types are entered sum below 0
abbrev pub HasFallingCycles : TreeAutomaton → ℕ → Type 0
HasFallingCycles a g = (n : ℕ) → led a (suc n) g ≡ g → entered_sum a (suc n) g <ℤ pos 0

-- of every side, or every claim, of every state
abbrev pub AtEverySide : List TileKind → TreeAutomaton → (ℕ → ℕ → Type 0) → Type 0
AtEverySide kinds a P = (s i : ℕ) → s < length a.states → i < side_count kinds a s → P s i

-- of every corner type
abbrev pub AtEveryCorner : TreeAutomaton → (ℕ → Type 0) → Type 0
AtEveryCorner a P = (g : ℕ) → g < length a.corners → P g

-- the twelve conditions
pub record IsAccepted (kinds : List TileKind) (a : TreeAutomaton) : Type 0 where
  pub c1 : IsClosedTable kinds a
  pub c2 : AtEverySide kinds a (HasParentRule kinds a)
  pub c3 : AtEverySide kinds a (HasChildType kinds a)
  pub c4 : AtEverySide kinds a (HasClaimValence kinds a)
  pub c5 : AtEverySide kinds a (HasFirstPlace a)
  pub c6 : AtEverySide kinds a (HasLastPlace kinds a)
  pub c7 : AtEverySide kinds a (HasOuterBefore kinds a)
  pub c8 : AtEverySide kinds a (HasOuterBehind kinds a)
  pub c9 : AtEverySide kinds a (KeepsClaims kinds a)
  pub c10 : AtEveryCorner a (HasOneChange a)
  pub c11 : AtEveryCorner a (HasSmallChange a)
  pub c12 : AtEveryCorner a (HasFallingCycles a)
