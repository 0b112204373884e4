-- The darts met so far.
use Rattle.look_classes.proofs.Walks.{Walking, unmet}
use Rattle.look_classes.proofs.contour.walk.Given as goal

abbrev pub invariant-loop-met : goal.invariant-loop-met
invariant-loop-met l = Walking l.tree l.initial.at l.initial.met l.met l.at l.last

abbrev pub decreases-loop-met : goal.decreases-loop-met
decreases-loop-met l = unmet l.met
