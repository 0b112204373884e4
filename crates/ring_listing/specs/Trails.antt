-- The way to the last name that was given: its sides and the states on it, and which names come behind.
use Rattle.std.specs.Prelude.{◌≡◌, ◌≢◌, ℕ, zero, suc, ◌+◌, ◌-◌, ◌*◌, ◌<◌, ◌≤◌, List, [], ◌∷◌, ◌++◌, length, map, take, slice_index_or}
use Rattle.tile_model.specs.Tessellations.{TileKind}
use Rattle.tree_model.specs.declared.Rule.TheVariants.{Child}
use Rattle.tree_model.specs.Automata.{TreeAutomaton, rule_at, root_at, side_count}
use Rattle.tree_model.specs.Names.{child_of, reached, IsNameBelow}
use Rattle.tree_model.proofs.Rings.{names_below, behind_sides, behind_rule}
use Rattle.structure_check.specs.Rules.{TreeRules, AreSound}
use Rattle.ring_listing.specs.declared.trail.Trail.{Trail}

module _ (kinds : List TileKind) (a : TreeAutomaton) where
  -- the names of e sides below state s whose first side is i or comes later; where e is 0, the one
  -- name comes at side 0
  abbrev pub names_from : ℕ → ℕ → ℕ → List (List ℕ)
  names_from zero s zero = [] ∷ []
  names_from zero s (suc i) = []
  names_from (suc e) s i =
      behind_sides (λ j. behind_rule (names_below kinds a e) (rule_at a s j)) (side_count kinds a s - i) i

  -- Those behind a name that may be shorter: the names that begin with it and go on by side i or a later one, and
  -- all that come behind these.
  unfoldable pub names_behind : ℕ → ℕ → List ℕ → ℕ → List (List ℕ)
  names_behind e s [] i = names_from e s i
  names_behind zero s (x ∷ name) i = []
  names_behind (suc e) s (x ∷ name) i =
      map (λ m. x ∷ m) (names_behind e (child_of (rule_at a s x)) name i) ++ names_from (suc e) s (suc x)

-- no side of state s from side i on leads to a child, of those before side j
abbrev pub HasNoChild : TreeAutomaton → ℕ → ℕ → ℕ → Type 0
HasNoChild a s i j = (x c : ℕ) → i ≤ x → x < j → rule_at a s x ≢ Child c

-- x is the first side of state s from side i on that leads to a child, which is in state c
pub record IsNextSide (kinds : List TileKind) (a : TreeAutomaton) (s i x c : ℕ) : Type 0 where
  pub from : i ≤ x
  pub below : x < side_count kinds a s
  pub child : rule_at a s x ≡ Child c
  pub first : HasNoChild a s i x

-- Nothing comes from side i of state s on: e more sides are to go, or the name was given.
pub record IsDone (kinds : List TileKind) (a : TreeAutomaton) (e s i : ℕ) : Type 0 where
  pub given : e ≡ 0 → 0 < i
  pub childless : 0 < e → HasNoChild a s i (side_count kinds a s)

-- the state of the tile of a trail
abbrev pub tile_state : TreeRules → ℕ → Trail → ℕ
tile_state r k t = reached r.automaton (root_at r.automaton k) (take t.level t.name)

-- the names that a trail still comes to
abbrev pub names_left : TreeRules → ℕ → Trail → List (List ℕ)
names_left r k t = names_behind r.kinds r.automaton (length t.name) (root_at r.automaton k) (take t.level t.name) t.side

-- The first sides of the name, as many as the level, are a name, and the states are those on its way.
pub record IsTrail (r : TreeRules) (k : ℕ) (t : Trail) : Type 0 where
  pub sound : AreSound r
  pub kind : k < length r.kinds
  pub level : t.level ≤ length t.name
  pub side : t.side ≤ 64
  pub room : length t.states.items ≡ suc (length t.name)
  pub name : IsNameBelow r.kinds r.automaton (root_at r.automaton k) (take t.level t.name)
  pub states : (j : ℕ) → j ≤ t.level
      → slice_index_or t.states.items j 0 ≡ reached r.automaton (root_at r.automaton k) (take j t.name)

-- How many moves may be left at most on a way of which e more sides are behind the tile's parent's. A tile has at
-- most 64 sides; 66 to the power of e bounds the moves below one of them.
abbrev pub moves_below : ℕ → ℕ
moves_below zero = 1
moves_below (suc e) = 66 * moves_below e

abbrev pub moves_behind : ℕ → List ℕ → ℕ → ℕ
moves_behind e [] i = (65 - i) * moves_below e
moves_behind zero (x ∷ name) i = 0
moves_behind (suc e) (x ∷ name) i = moves_behind e name i + (64 - x) * moves_below (suc e)

unfoldable pub moves_left : Trail → ℕ
moves_left t = moves_behind (length t.name) (take t.level t.name) t.side
