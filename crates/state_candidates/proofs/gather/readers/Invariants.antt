-- The readers of the looks before this one are there.
use Rattle.std.proofs.Common.{◌≡◌, ◌≤◌, length}
use Rattle.state_candidates.specs.Candidates.{states_before, corners_before}
use Rattle.state_candidates.specs.Gathered.{AreReadersOf, lists_of}
use Rattle.state_candidates.proofs.gather.readers.Given as goal

abbrev pub invariant-loop-x : goal.invariant-loop-x
invariant-loop-x l = record {
  long : length l.readers.items ≡ l.x-index;
  readers : AreReadersOf l.looks l.readers.items;
  states : l.states ≡ states_before (lists_of l.readers.items) l.x-index;
  corners : l.corners ≡ corners_before (lists_of l.readers.items) l.x-index;
  few_states : l.states ≤ 100000;
  few_corners : l.corners ≤ 20000;
}
