-- Automata over a base automaton.
use Rattle.std.specs.Prelude.{◌≡◌, ◌≤◌, ◌<◌, ℕ, List, length, map, slice_index_or, All}
use Rattle.tree_model.specs.Automata.{TreeState, TreeAutomaton}
use Rattle.cone_types.specs.Cones.{Cone}

-- The cone type of a state: all of it but its claims.
abbrev pub cone_of : TreeState → Cone
cone_of s = record { kind = s.kind; off = s.off; rules = s.rules }

-- A state has as many claims as rules.
abbrev pub HasClaims : TreeState → Type 0
HasClaims s = length s.claims ≡ length s.rules

-- The states are those of the first kinds.
abbrev pub AreFirst : ℕ → List ℕ → Type 0
AreFirst kinds roots = (k : ℕ) → k < kinds → slice_index_or roots k 0 ≡ k

-- An automaton whose states are the cone types, in their order, with claims. The roots of the kinds
-- are the first states.
pub record IsOver (types : List Cone) (kinds : ℕ) (a : TreeAutomaton) : Type 0 where
  pub cones : map cone_of a.states ≡ types
  pub claims : All HasClaims a.states
  pub few : length a.states ≤ 100000
  pub count : length a.roots ≡ kinds
  pub enough : kinds ≤ length a.states
  pub roots : AreFirst kinds a.roots
  pub some_corner : 1 ≤ length a.corners
  pub few_corners : length a.corners ≤ 20000
