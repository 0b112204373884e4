-- The first states of classes, each met in the order of states.
use Rattle.std.specs.Prelude.{◌≡◌, ℕ, ◌<◌, List, length, slice_index_or, Option, Some, None}
use Rattle.tree_model.specs.Automata.{TreeAutomaton}
use Rattle.rules_tools.specs.Keys.{class_of, key_of}

-- the state that was met first of class m
abbrev pub first_at : List (Option ℕ) → ℕ → Option ℕ
first_at firsts m = slice_index_or firsts m None

-- the first state of the class of s has the key of s
abbrev pub HasFirst : TreeAutomaton → List ℕ → List (Option ℕ) → ℕ → Type 0
HasFirst a class firsts s =
    (r : ℕ) × (first_at firsts (class_of class s) ≡ Some r)
    × (key_of a class r ≡ key_of a class s)

-- the first states are states
abbrev pub AreFirsts : TreeAutomaton → List (Option ℕ) → Type 0
AreFirsts a firsts = (m r : ℕ) → first_at firsts m ≡ Some r → r < length a.states

-- first states that were met stay
abbrev pub KeepsFirsts : List (Option ℕ) → List (Option ℕ) → Type 0
KeepsFirsts firsts firsts' = (m r : ℕ) → first_at firsts m ≡ Some r → first_at firsts' m ≡ Some r
