-- Keys: a state whose children are given by their classes, as a list of numbers. Two states have one
-- key exactly where they are of one class, have one face, and side by side have children of one
-- class.
use Rattle.std.specs.Prelude.{ℕ, zero, suc, List, [], ◌∷◌, ◌++◌, slice_index_or, Bool, if◌then◌else◌, Option, Some, None}
use Rattle.tree_model.specs.declared.Rule.{Rule}
use Rattle.tree_model.specs.declared.Rule.TheVariants.{Parent, Child, Left, Right}
use Rattle.tree_model.specs.declared.Claim.{Claim}
use Rattle.tree_model.specs.Automata.{TreeState, TreeAutomaton, state_at}
use Rattle.merge_model.specs.Faces.{with_children}
use Rattle.rules_tools.specs.Reached.{mark_at}

-- the class of state s, 0 where the list has none
abbrev pub class_of : List ℕ → ℕ → ℕ
class_of class s = slice_index_or class s 0

abbrev pub rule_code : Rule → List ℕ
rule_code Parent = 1 ∷ []
rule_code Left = 2 ∷ []
rule_code Right = 3 ∷ []
rule_code (Child c) = 4 ∷ c ∷ []

abbrev pub rules_code : List Rule → List ℕ
rules_code [] = []
rules_code (r ∷ rs) = rule_code r ++ rules_code rs

abbrev pub claims_code : List Claim → List ℕ
claims_code [] = []
claims_code (q ∷ qs) = q.corner ∷ q.place ∷ claims_code qs

abbrev pub state_code : TreeState → List ℕ
state_code s = s.kind ∷ s.off ∷ (rules_code s.rules ++ 0 ∷ claims_code s.claims)

-- state s with classes in the places of its children
abbrev pub classed_state : TreeAutomaton → List ℕ → ℕ → TreeState
classed_state a class s = with_children (class_of class) (state_at a s)

unfoldable pub key_of : TreeAutomaton → List ℕ → ℕ → List ℕ
key_of a class s = class_of class s ∷ state_code (classed_state a class s)

-- the values of f at the numbers below n, in order
unfoldable pub listed : (ℕ → Option (List ℕ)) → ℕ → List (Option (List ℕ))
listed f zero = []
listed f (suc n) = listed f n ++ f n ∷ []

-- the key of state s by its class alone, None where the state is not marked
abbrev pub class_key : List Bool → List ℕ → ℕ → Option (List ℕ)
class_key marks class s = if mark_at marks s then Some (class_of class s ∷ []) else None
