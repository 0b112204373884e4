-- No candidate to a horizon before this one is accepted.
use Rattle.std.proofs.Common.{◌≡◌}
use Rattle.state_learner.specs.Growing.{AreTried}
use Rattle.state_learner.proofs.attempts.attempt.Given as goal

abbrev pub invariant-loop-horizon : goal.invariant-loop-horizon
invariant-loop-horizon l = record {
  regions : l.candidates.regions ≡ l.regions;
  horizon : l.candidates.horizon ≡ l.horizon;
  tried : AreTried l.t l.regions l.horizon;
}
