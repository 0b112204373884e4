-- The parents of states, as ranges of one list.
use Rattle.std.specs.Prelude.{◌≡◌, ℕ, suc, ◌<◌, ◌≤◌, List, length, slice_index_or}
use Rattle.tree_model.specs.Automata.{TreeAutomaton}
use Rattle.rules_tools.specs.declared.parents.Parent.{Parent}
use Rattle.rules_tools.specs.declared.parents.Parents.{Parents}
use Rattle.rules_tools.specs.Keys.{class_of as number_at}
use Rattle.rules_tools.specs.Searches.{IsChild}

-- numbers that do not fall
abbrev pub AreRising : List ℕ → Type 0
AreRising xs = (c d : ℕ) → c ≤ d → d < length xs → number_at xs c ≤ number_at xs d

-- what stands for an entry that is not there
abbrev pub no_parent : Parent
no_parent = record { state = 0; side = 0 }

abbrev pub entry_at : Parents → ℕ → Parent
entry_at p j = slice_index_or p.entries.items j no_parent

-- each range ends in the room before the next one
pub record IsSpaced (p : Parents) : Type 0 where
  pub rising : AreRising p.starts.items
  pub long : length p.ends.items ≡ length p.starts.items
  pub begins : (c : ℕ) → number_at p.starts.items c ≤ number_at p.ends.items c
  pub stops :
      (c : ℕ) → suc c < length p.starts.items
      → number_at p.ends.items c ≤ number_at p.starts.items (suc c)

-- x is among the parents of state c
pub record HasParent (p : Parents) (c : ℕ) (x : Parent) : Type 0 where
  pub at : ℕ
  pub known : suc c < length p.starts.items
  pub from : number_at p.starts.items c ≤ at
  pub below : at < number_at p.ends.items c
  pub is : entry_at p at ≡ x

-- each parent is a state that has the child at the side
abbrev pub AreTrue : TreeAutomaton → Parents → Type 0
AreTrue a p =
    (c : ℕ) (x : Parent) → HasParent p c x
    → (x.state < length a.states) × IsChild a x.state x.side c

-- the first n states are among the parents of their children
abbrev pub AreAll : TreeAutomaton → Parents → ℕ → Type 0
AreAll a p n =
    (s i c : ℕ) → s < n → i < 64 → IsChild a s i c
    → HasParent p c (record { state = s; side = i })
