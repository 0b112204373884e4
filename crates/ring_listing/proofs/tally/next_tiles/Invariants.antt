use Rattle.std.proofs.Common.{◌≡◌, ℕ, ◌+◌, [], length, drop, slice_index_or}
use Rattle.std.proofs.Common.{◌≤◌}
use Rattle.tree_model.specs.Limits.{most_counted}
use Rattle.ring_listing.specs.Populations.{children_sum, tiles_sum}
use Rattle.ring_listing.proofs.tally.next_tiles.Given as goal

-- what the children of tiles in later states would still add
abbrev pub invariant-loop-state : goal.invariant-loop-state
invariant-loop-state l = record {
  all : tiles_sum (λ _. 1) 0 l.next ≡ l.all;
  few : l.all ≤ most_counted;
  room : length l.next ≡ length l.fn.next;
  sums : (f : ℕ → ℕ) → tiles_sum f 0 l.next
      + tiles_sum (λ s. children_sum f (slice_index_or l.fn.families s [])) l.state (drop l.state l.fn.tiles)
      ≡ tiles_sum (λ s. children_sum f (slice_index_or l.fn.families s [])) 0 l.fn.tiles;
}
