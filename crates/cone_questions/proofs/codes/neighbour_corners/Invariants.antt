-- As many cells may be made as before.
use Rattle.std.proofs.Common.{◌≡◌}
use Rattle.cone_questions.proofs.codes.neighbour_corners.Given as goal

abbrev pub invariant-loop-over : goal.invariant-loop-over
invariant-loop-over l = l.patches.most ≡ l.fn.patches.most
