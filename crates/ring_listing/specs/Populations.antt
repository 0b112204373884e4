-- How many tiles of a ring are in each state, and what their children are.
use Rattle.std.specs.Prelude.{◌≡◌, ℕ, suc, ◌+◌, ◌*◌, ◌<◌, List, [], ◌∷◌, length, slice_index_or, All}
use Rattle.tile_model.specs.Tessellations.{TileKind}
use Rattle.tree_model.specs.Automata.{TreeAutomaton, rule_at, root_at, side_count}
use Rattle.tree_model.proofs.Rings.{count_below, count_sides, count_rule}
use Rattle.ring_listing.specs.declared.family.Children.{Children}

-- the sum of a function of states over some children
abbrev pub children_sum : (ℕ → ℕ) → List Children → ℕ
children_sum f [] = 0
children_sum f (c ∷ cs) = c.sides * f c.state + children_sum f cs

-- the sum over tiles, of which the list tells how many are in each state from state s on
abbrev pub tiles_sum : (ℕ → ℕ) → ℕ → List ℕ → ℕ
tiles_sum f s [] = 0
tiles_sum f s (n ∷ tiles) = n * f s + tiles_sum f (suc s) tiles

-- the sum over the children of a tile in state s, side by side
unfoldable pub offspring_sum : List TileKind → TreeAutomaton → (ℕ → ℕ) → ℕ → ℕ
offspring_sum kinds a f s = count_sides (λ i. count_rule f (rule_at a s i)) (side_count kinds a s) 0

-- These are the children of a tile in state s: each sum over them is that over its sides.
pub record IsFamily (kinds : List TileKind) (a : TreeAutomaton) (s : ℕ) (cs : List Children) : Type 0 where
  pub known : All (λ c. c.state < length a.states) cs
  pub sums : (f : ℕ → ℕ) → children_sum f cs ≡ offspring_sum kinds a f s

-- the children of a tile in each state
pub record AreFamilies (kinds : List TileKind) (a : TreeAutomaton) (families : List (List Children)) : Type 0 where
  pub each : length families ≡ length a.states
  pub family : (s : ℕ) → s < length families → IsFamily kinds a s (slice_index_or families s [])

-- Of the tiles of ring d of kind k so many are in each state: for each e, the names of e sides below
-- them are as many as the names of d + e sides.
abbrev pub IsPopulation : List TileKind → TreeAutomaton → ℕ → ℕ → List ℕ → Type 0
IsPopulation kinds a k d tiles =
    (e : ℕ) → tiles_sum (count_below kinds a e) 0 tiles ≡ count_below kinds a (d + e) (root_at a k)
