-- As many cells may be made as before.
use Rattle.std.proofs.Common.{◌≡◌}
use Rattle.cone_learner.proofs.refining.Refinement.refine.Given as goal

abbrev pub invariant-loop-sweep : goal.invariant-loop-sweep
invariant-loop-sweep l = l.patches.most ≡ l.fn.patches.most
