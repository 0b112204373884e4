-- As many cells may be made as before.
use Rattle.std.proofs.Common.{◌≡◌}
use Rattle.cone_learner.proofs.refining.Refinement.widen.Given as goal

abbrev pub invariant-loop-way : goal.invariant-loop-way
invariant-loop-way l = l.patches.most ≡ l.fn.patches.most
