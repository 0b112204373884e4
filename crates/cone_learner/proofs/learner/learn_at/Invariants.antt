-- As many cells may be made as before.
use Rattle.std.proofs.Common.{◌≡◌}
use Rattle.cone_learner.proofs.learner.learn_at.Given as goal

abbrev pub invariant-loop-round : goal.invariant-loop-round
invariant-loop-round l = l.patches.most ≡ l.fn.patches.most
