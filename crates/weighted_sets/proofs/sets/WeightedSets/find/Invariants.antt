-- The links keep the same, and the element lies apart from the one that the way up has come to.
use Rattle.std.proofs.Common.{◌≡◌, ◌<◌, length}
use Rattle.weighted_sets.specs.Sets.{KeepSame, KeepRoots}
use Rattle.weighted_sets.specs.Sets.{IsKnown}
use Rattle.weighted_sets.proofs.sets.WeightedSets.find.Given as goal

abbrev pub invariant-loop-at : goal.invariant-loop-at
invariant-loop-at l = record {
  elements : length l.self.links ≡ length l.initial.self.links;
  count : l.self.count ≡ l.initial.self.count;
  same : KeepSame l.initial.self.links l.self.links;
  roots : KeepRoots l.initial.self.links l.self.links;
  under : l.at < length l.self.links;
  known : IsKnown l.self.links l.at l.x l.shift;
}

abbrev pub decreases-loop-at : goal.decreases-loop-at
decreases-loop-at l = l.at
