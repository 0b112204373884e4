use Rattle.std.proofs.Common.{◌≡◌, ℕ, ◌<◌, [], length, slice_index_or}
use Rattle.ring_listing.specs.Populations.{IsFamily}
use Rattle.ring_listing.proofs.tally.families.Given as goal

abbrev pub invariant-loop-state : goal.invariant-loop-state
invariant-loop-state l = record {
  count : length l.families.items ≡ l.state;
  each : (s : ℕ) → s < l.state → IsFamily l.r.kinds l.r.automaton s (slice_index_or l.families.items s []);
}
