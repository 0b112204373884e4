-- The face of a state: all that it says itself, without the states that it names.
use Rattle.std.specs.Prelude.{ℕ, map}
use Rattle.tree_model.specs.declared.Rule.{Rule}
use Rattle.tree_model.specs.declared.Rule.TheVariants.{Parent, Child, Left, Right}
use Rattle.tree_model.specs.Automata.{TreeState, TreeAutomaton, state_at}

-- a rule with another number in the place of a Child's
abbrev pub with_child : (ℕ → ℕ) → Rule → Rule
with_child f Parent = Parent
with_child f (Child c) = Child (f c)
with_child f Left = Left
with_child f Right = Right

-- a state with other numbers in the places of those of its children
abbrev pub with_children : (ℕ → ℕ) → TreeState → TreeState
with_children f s = record {
  kind = s.kind;
  off = s.off;
  rules = map (with_child f) s.rules;
  claims = s.claims;
}

-- the face of a state: its kind, its off, its claims, and its rules without the numbers of children,
-- for which 0 stands
abbrev pub face : TreeState → TreeState
face s = with_children (λ c. 0) s

-- the face of state s
abbrev pub face_at : TreeAutomaton → ℕ → TreeState
face_at a s = face (state_at a s)
