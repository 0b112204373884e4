-- What stands of the sizes that were counted.
use Rattle.std.specs.Prelude.{◌≡◌, ℕ, ◌<◌, ◌≤◌, length, slice_index_or, IsTrue, suc}
use Rattle.tree_model.specs.Automata.{root_at}
use Rattle.tree_model.specs.Limits.{most_counted}
use Rattle.tree_model.proofs.Rings.{count_below}
use Rattle.ring_listing.specs.Populations.{AreFamilies, IsPopulation}
use Rattle.ring_listing.specs.declared.tally.Tally.{Tally}

-- From the last ring that was counted one can count on.
pub record CanGoOn (t : Tally) : Type 0 where
  pub families : AreFamilies t.rules.now.kinds t.rules.now.automaton t.families.items
  pub tiles : length t.tiles.items ≡ length t.rules.now.automaton.states
  pub room : length t.room.items ≡ length t.rules.now.automaton.states
  pub population : (d : ℕ) → suc d ≡ length t.sizes.items
      → IsPopulation t.rules.now.kinds t.rules.now.automaton t.kind d t.tiles.items

-- The sizes are those of the first rings, which can be counted. Where the tally is full, the next ring is too big.
pub record IsTally (t : Tally) : Type 0 where
  pub kind : t.kind < length t.rules.now.kinds
  pub sizes : (d : ℕ) → d < length t.sizes.items
      → slice_index_or t.sizes.items d 0
      ≡ count_below t.rules.now.kinds t.rules.now.automaton d (root_at t.rules.now.automaton t.kind)
  pub few : (d : ℕ) → d < length t.sizes.items
      → count_below t.rules.now.kinds t.rules.now.automaton d (root_at t.rules.now.automaton t.kind) ≤ most_counted
  pub full : IsTrue t.is_full → most_counted < count_below t.rules.now.kinds t.rules.now.automaton
      (length t.sizes.items) (root_at t.rules.now.automaton t.kind)
  pub going : 0 < length t.sizes.items → CanGoOn t
