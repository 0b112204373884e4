use Rattle.std.proofs.Common.{◌≡◌, ◌+◌, ◌-◌, ◌<◌, length}
use Rattle.std.specs.Prelude.{if◌then◌else◌}
use Rattle.ring_listing.specs.Tallies.{IsTally}
use Rattle.ring_listing.proofs.tally.Tally.count_to.Given as goal

abbrev pub invariant-loop-self : goal.invariant-loop-self
invariant-loop-self l = record {
  rules : l.self.rules.now ≡ l.fn.self.rules.now;
  kind : l.self.kind ≡ l.fn.self.kind;
  tally : IsTally l.self;
  started : 0 < length l.self.sizes.items;
}

abbrev pub decreases-loop-self : goal.decreases-loop-self
decreases-loop-self l = (l.d + 1 - length l.self.sizes.items) + (if l.self.is_full then 0 else 1)
