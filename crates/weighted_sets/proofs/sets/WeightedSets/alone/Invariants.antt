-- Each element so far is linked to itself.
use Rattle.std.proofs.Common.{◌≡◌, length}
use Rattle.weighted_sets.proofs.Alone.{AreAlone}
use Rattle.weighted_sets.proofs.sets.WeightedSets.alone.Given as goal

abbrev pub invariant-loop-element : goal.invariant-loop-element
invariant-loop-element l = record {
  elements : length l.links.items ≡ l.element;
  alone : AreAlone l.links.items;
}
