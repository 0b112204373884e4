-- Which states the tree reaches, and the search for them.
use Rattle.std.specs.Prelude.{◌≡◌, ℕ, ◌+◌, ◌<◌, ◌≤◌, List, length, slice_index_or, Bool, true, false}
use Rattle.std.specs.List.{sum_by}
use Rattle.tile_model.specs.Tessellations.{TileKind}
use Rattle.tree_model.specs.declared.Rule.TheVariants.{Child}
use Rattle.tree_model.specs.Automata.{TreeAutomaton, rule_at, side_count}
use Rattle.merge_model.specs.Merging.{IsReachable}

-- whether state s is marked
abbrev pub mark_at : List Bool → ℕ → Bool
mark_at marks s = slice_index_or marks s false

-- the states that are marked are those that are reachable
pub record AreReached (kinds : List TileKind) (a : TreeAutomaton) (marks : List Bool) : Type 0 where
  pub long : length marks ≡ length a.states
  pub marked : (s : ℕ) → mark_at marks s ≡ true → IsReachable kinds a s
  pub all : (s : ℕ) → IsReachable kinds a s → mark_at marks s ≡ true

-- 1 for a state that is not marked
abbrev pub as_unmarked : Bool → ℕ
as_unmarked true = 0
as_unmarked false = 1

-- how many are not marked
abbrev pub unmarked : List Bool → ℕ
unmarked marks = sum_by as_unmarked marks

-- entry j of a queue
abbrev pub queued_at : List ℕ → ℕ → ℕ
queued_at queue j = slice_index_or queue j 0

-- the states that are marked are reachable, and each stands once in the queue
pub record IsSearch (kinds : List TileKind) (a : TreeAutomaton) (marks : List Bool) (queue : List ℕ) :
    Type 0 where
  pub long : length marks ≡ length a.states
  pub queued :
      (s : ℕ) → mark_at marks s ≡ true → (j : ℕ) × (j < length queue) × (queued_at queue j ≡ s)
  pub known : (j : ℕ) → j < length queue → IsReachable kinds a (queued_at queue j)
  pub balance : unmarked marks + length queue ≡ length a.states

-- what was marked stays marked, and what was queued stays where it is
pub record Grows (marks : List Bool) (queue : List ℕ) (marks' : List Bool) (queue' : List ℕ) :
    Type 0 where
  pub kept : (s : ℕ) → mark_at marks s ≡ true → mark_at marks' s ≡ true
  pub longer : length queue ≤ length queue'
  pub same : (j : ℕ) → j < length queue → queued_at queue' j ≡ queued_at queue j

-- the children of the first n states of the queue are marked
abbrev pub ChildrenMarked :
    List TileKind → TreeAutomaton → List Bool → List ℕ → ℕ → Type 0
ChildrenMarked kinds a marks queue n =
    (j i c : ℕ) → j < n → i < side_count kinds a (queued_at queue j)
    → rule_at a (queued_at queue j) i ≡ Child c → mark_at marks c ≡ true
