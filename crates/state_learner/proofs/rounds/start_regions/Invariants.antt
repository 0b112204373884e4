-- There is a region of each kind before this one.
use Rattle.state_learner.specs.Growing.{AreStarted}
use Rattle.state_learner.proofs.rounds.start_regions.Given as goal

abbrev pub invariant-loop-kind : goal.invariant-loop-kind
invariant-loop-kind l = AreStarted l.t l.kind l.regions.items
