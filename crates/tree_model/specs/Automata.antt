-- Tree automata as plain lists, and their tables read by number. Where there is no such entry,
-- something stands for it.
use Rattle.std.specs.Prelude.{ℕ, zero, suc, ◌+◌, ◌-◌, ◌%◌, List, [], length, slice_index_or, ℤ, pos, nat_eq, if◌then◌else◌}
use Rattle.tile_model.specs.Tessellations.{TileKind, kind_at}
use Rattle.tree_model.specs.declared.Rule.{Rule}
use Rattle.tree_model.specs.declared.Rule.TheVariants.{Parent}
use Rattle.tree_model.specs.declared.Claim.{Claim}

-- A state of a tile: its kind, the residue of its side 0, a rule for each side, and for each corner
-- what it claims of it. Corner i lies between sides i and i + 1.
pub record TreeState : Type 0 where
  pub kind : ℕ
  pub off : ℕ
  pub rules : List Rule
  pub claims : List Claim

-- A corner type: for each place the depth of its tile less that of the tile at place 0, the corner
-- at the other end of the key edge with the place at which it has the tile that is at place 0 here.
pub record CornerType : Type 0 where
  pub offsets : List ℤ
  pub outer : Claim

-- An automaton: its states, its corner types, and for each kind the state of a root of this kind.
pub record TreeAutomaton : Type 0 where
  pub states : List TreeState
  pub corners : List CornerType
  pub roots : List ℕ

abbrev pub no_claim : Claim
no_claim = record { corner = 0; place = 0 }

abbrev pub no_state : TreeState
no_state = record { kind = 0; off = 0; rules = []; claims = [] }

abbrev pub no_corner : CornerType
no_corner = record { offsets = []; outer = record { corner = 0; place = 0 } }

unfoldable pub state_at : TreeAutomaton → ℕ → TreeState
state_at a s = slice_index_or a.states s no_state

unfoldable pub corner_at : TreeAutomaton → ℕ → CornerType
corner_at a g = slice_index_or a.corners g no_corner

-- the state of a root of kind k
unfoldable pub root_at : TreeAutomaton → ℕ → ℕ
root_at a k = slice_index_or a.roots k 0

-- the rule of side i
unfoldable pub rule_at : TreeAutomaton → ℕ → ℕ → Rule
rule_at a s i = slice_index_or (state_at a s).rules i Parent

-- the claim of corner i
unfoldable pub claim_at : TreeAutomaton → ℕ → ℕ → Claim
claim_at a s i = slice_index_or (state_at a s).claims i no_claim

-- the offset of a corner type at place t
unfoldable pub offset : TreeAutomaton → ℕ → ℕ → ℤ
offset a g t = slice_index_or (corner_at a g).offsets t (pos 0)

-- the number of tiles round a corner of this type
unfoldable pub corner_valence : TreeAutomaton → ℕ → ℕ
corner_valence a g = length (corner_at a g).offsets

unfoldable pub outer : TreeAutomaton → ℕ → Claim
outer a g = (corner_at a g).outer

-- the number of sides of a tile in state s
unfoldable pub side_count : List TileKind → TreeAutomaton → ℕ → ℕ
side_count kinds a s = (kind_at kinds (state_at a s).kind).sides

-- the type of side i of a tile in state s
unfoldable pub type_at : List TileKind → TreeAutomaton → ℕ → ℕ → ℕ × ℕ
type_at kinds a s i =
    ((state_at a s).kind, ((state_at a s).off + i) % (kind_at kinds (state_at a s).kind).repeat)

-- the number of the side next to the left of side i, of n sides
unfoldable pub next : ℕ → ℕ → ℕ
next n i = if nat_eq (suc i) n then 0 else suc i

-- the number of the side next to the right of side i, of n sides
abbrev pub previous : ℕ → ℕ → ℕ
previous n zero = n - 1
previous n (suc i) = i

-- the claim with 1 added to its place
abbrev pub further : Claim → Claim
further c = record { corner = c.corner; place = suc c.place }
