-- The looks before this one have come one horizon farther.
use Rattle.std.proofs.Common.{◌≡◌, ℕ, ◌<◌, ◌≤◌, length}
use Rattle.state_candidates.specs.Candidates.{looks_at, one_farther}
use Rattle.state_candidates.proofs.candidates.all_farther.Given as goal

abbrev pub invariant-loop-x : goal.invariant-loop-x
invariant-loop-x l = record {
  done : (k : ℕ) → k < l.x-index → looks_at l.looks k ≡ one_farther (looks_at l.fn.looks k);
  left : (k : ℕ) → l.x-index ≤ k → k < length l.looks → looks_at l.looks k ≡ looks_at l.fn.looks k;
}
