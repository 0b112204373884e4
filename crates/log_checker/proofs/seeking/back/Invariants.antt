-- A piece begins there; each step goes one piece back.
use Rattle.log_checker.specs.Trails.{Begins}
use Rattle.log_checker.proofs.seeking.back.Given as goal

abbrev pub invariant-loop-at : goal.invariant-loop-at
invariant-loop-at l = Begins l.pieces l.at.index l.at.before

abbrev pub decreases-loop-at : goal.decreases-loop-at
decreases-loop-at l = l.at.index
