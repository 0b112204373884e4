use Rattle.structure_check.specs.Cycles.{unstamped}
use Rattle.structure_check.proofs.Passing.{IsPassing}
use Rattle.structure_check.proofs.cycles.pass.Given as goal

abbrev pub invariant-loop-seen : goal.invariant-loop-seen
invariant-loop-seen l = IsPassing l.a l.g l.stamp l.fn.seen l.seen l.x l.links

abbrev pub decreases-loop-seen : goal.decreases-loop-seen
decreases-loop-seen l = unstamped l.seen
