-- The search for the first path that tells two states apart, as the code keeps it.
use Rattle.std.specs.Prelude.{◌≡◌, ℕ, ◌<◌, ◌≤◌, List, length, slice_index_or}
use Rattle.tile_model.specs.Tessellations.{TileKind}
use Rattle.tree_model.specs.declared.Rule.TheVariants.{Parent, Child}
use Rattle.tree_model.specs.Automata.{TreeAutomaton, state_at}
use Rattle.merge_model.specs.Faces.{face_at}
use Rattle.rules_tools.specs.declared.pairs.Pair.{Pair}
use Rattle.rules_tools.specs.declared.search.Search.{Search}
use Rattle.rules_tools.specs.Pairs.{pair_at, IsGoneThrough}

-- The pairs before entry `next` were gone through, and of it the sides below `side`.
abbrev pub IsSearching : List TileKind → TreeAutomaton → Search → ℕ → ℕ → Type 0
IsSearching kinds a x next side =
    IsGoneThrough kinds a x.first x.second x.above.items x.queue.items next side

-- the pair of an entry has one face
abbrev pub HasOneFace : TreeAutomaton → Search → ℕ → Type 0
HasOneFace a x entry =
    face_at a (pair_at x.queue.items entry).first ≡ face_at a (pair_at x.queue.items entry).second

-- the rule of a state at a side is a Child of that number
abbrev pub IsChild : TreeAutomaton → ℕ → ℕ → ℕ → Type 0
IsChild a s i c = slice_index_or (state_at a s).rules i Parent ≡ Child c

-- both states of an entry have children at the side, and these are the pair
pub record AreChildren (a : TreeAutomaton) (x : Search) (entry i : ℕ) (p : Pair) : Type 0 where
  pub first : IsChild a (pair_at x.queue.items entry).first i p.first
  pub second : IsChild a (pair_at x.queue.items entry).second i p.second
  pub from : p.from ≡ entry
  pub side : p.side ≡ i
  pub within : i < length (state_at a (pair_at x.queue.items entry).first).rules

-- not both have
abbrev pub AreNone : TreeAutomaton → Search → ℕ → ℕ → Type 0
AreNone a x entry i =
    (c d : ℕ) → IsChild a (pair_at x.queue.items entry).first i c
    → IsChild a (pair_at x.queue.items entry).second i d → ⊥

-- the states that it began with and the entries stay
pub record Keeps (x y : Search) : Type 0 where
  pub first : y.first ≡ x.first
  pub second : y.second ≡ x.second
  pub longer : length x.queue.items ≤ length y.queue.items
  pub same : (j : ℕ) → j < length x.queue.items → pair_at y.queue.items j ≡ pair_at x.queue.items j
