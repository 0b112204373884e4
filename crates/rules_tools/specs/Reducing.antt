-- The states of the classes, as far as the states of an automaton were gone through.
use Rattle.std.specs.Prelude.{◌≡◌, ℕ, ◌<◌, List, length, slice_index_or, Option, Some}
use Rattle.tree_model.specs.Automata.{TreeState, TreeAutomaton, no_state, state_at}
use Rattle.merge_model.specs.Faces.{with_children}
use Rattle.merge_model.specs.Merging.{class_at, class_number}

-- a lesser number has a state before
abbrev pub AreOrdered : List (Option ℕ) → Type 0
AreOrdered classes =
    (s m n : ℕ) → class_at classes s ≡ Some m → n < m
    → (t : ℕ) × (t < s) × (class_at classes t ≡ Some n)

-- the states of the classes of the first n states
pub record AreFirstStates
    (a : TreeAutomaton) (classes : List (Option ℕ)) (n : ℕ) (states : List TreeState) : Type 0
  where
    pub each :
        (m : ℕ) → m < length states
        → (s : ℕ) × (s < n) × (class_at classes s ≡ Some m)
        × (slice_index_or states m no_state
        ≡ with_children (class_number classes) (state_at a s))
    pub all : (s m : ℕ) → s < n → class_at classes s ≡ Some m → m < length states
