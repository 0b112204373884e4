-- The looks of the regions before this one are there.
use Rattle.std.proofs.Common.{◌≡◌, length}
use Rattle.state_candidates.specs.Candidates.{AreLooks}
use Rattle.state_candidates.proofs.candidates.Candidates.over.Given as goal

abbrev pub invariant-loop-region : goal.invariant-loop-region
invariant-loop-region l = record {
  count : length l.looks.items ≡ l.region-index;
  looks : AreLooks l.regions 0 l.looks.items;
}
