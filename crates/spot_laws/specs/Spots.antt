-- Spots: a tile of the tree by its name, the states on the way to it, and the side that is faced.
use Rattle.std.specs.Prelude.{◌≡◌, ℕ, suc, ◌^◌, ◌<◌, Bool, List, [], ◌∷◌, ◌++◌, length, take, slice_index_or}
use Rattle.structure_check.specs.Rules.{TreeRules}
use Rattle.tree_model.specs.declared.Rule.{Rule}
use Rattle.tree_model.specs.declared.Rule.TheVariants.{Child}
use Rattle.tree_model.specs.Automata.{TreeAutomaton, state_at, root_at, rule_at, side_count}
use Rattle.tree_model.specs.Names.{child_of, state_of}
use Rattle.tree_model.specs.Positions.{Position, IsPosition, parent, last_side}
use Rattle.tree_laws.specs.Directions.{most_open}

pub record TreeSpot : Type 0 where
  pub name : List ℕ
  pub path : List ℕ
  pub spin : ℕ

-- the position that a spot stands at
abbrev pub position : TreeSpot → Position
position s = record { name = s.name; side = s.spin }

-- the states of the prefixes of a name, which starts in state s
abbrev pub states_along : TreeAutomaton → ℕ → List ℕ → List ℕ
states_along a s [] = s ∷ []
states_along a s (i ∷ name) = s ∷ states_along a (child_of (rule_at a s i)) name

-- the kind of the root, told by the first state of the path
abbrev pub root_kind : TreeRules → TreeSpot → ℕ
root_kind rules s = (state_at rules.automaton (slice_index_or s.path 0 0)).kind

-- A spot of these rules, in the tree of its root's kind: it stands at a position there, and its
-- path is that of its name from the root on.
pub record IsSpot (rules : TreeRules) (s : TreeSpot) : Type 0 where
  pub known : root_kind rules s < length rules.kinds
  pub there : IsPosition rules.kinds rules.automaton (root_kind rules s) (position s)
  pub along :
      s.path ≡ states_along rules.automaton (root_at rules.automaton (root_kind rules s)) s.name

-- the spot of these rules at position p of the tree of kind k
pub record IsAt (rules : TreeRules) (k : ℕ) (p : Position) (s : TreeSpot) : Type 0 where
  pub spot : IsSpot rules s
  pub tree : root_kind rules s ≡ k
  pub stands : position s ≡ p

-- the state of its tile
abbrev pub tile_state : TreeRules → TreeSpot → ℕ
tile_state rules s = state_of rules.automaton (root_kind rules s) s.name

-- the number of sides of its tile
abbrev pub tile_sides : TreeRules → TreeSpot → ℕ
tile_sides rules s = side_count rules.kinds rules.automaton (tile_state rules s)

-- the rule of the side that it faces
abbrev pub faced_rule : TreeRules → TreeSpot → Rule
faced_rule rules s = rule_at rules.automaton (tile_state rules s) s.spin

-- the faced side leads to a child
abbrev pub FacesChild : TreeRules → TreeSpot → Type 0
FacesChild rules s = faced_rule rules s ≡ Child (child_of (faced_rule rules s))

-- the spot on the child across the faced side, at side 0
abbrev pub IsAtChild : TreeRules → (old new : TreeSpot) → Type 0
IsAtChild rules old new =
    IsAt rules (root_kind rules old) (record { name = old.name ++ old.spin ∷ []; side = 0 }) new

-- the spot on the parent, at the side across which the tile lies
abbrev pub IsAtParent : TreeRules → (old new : TreeSpot) → Type 0
IsAtParent rules old new =
    IsAt rules (root_kind rules old)
    (record { name = parent old.name; side = last_side old.name }) new

-- the spot on the same tile, at side i
abbrev pub facing : TreeSpot → ℕ → TreeSpot
facing s i = record { name = s.name; path = s.path; spin = i }

-- The spot that keeps the first sides of the name, goes on by other sides through these states, and
-- faces side i.
abbrev pub rejoined : TreeSpot → (kept : ℕ) (sides states : List ℕ) (i : ℕ) → TreeSpot
rejoined s kept sides states i =
    record { name = take kept s.name ++ sides; path = take (suc kept) s.path ++ states; spin = i }

-- Fewer than 2^127 brackets are ever open on the walk along the contour in this direction, from each
-- side of a tile below a name in memory.
abbrev pub BracketsAreFew : TreeRules → (leftwards : Bool) → Type 0
BracketsAreFew rules leftwards =
    (k : ℕ) (p : Position) → length p.name < 2 ^ 65 →
    most_open rules.kinds rules.automaton k leftwards p < 2 ^ 127
