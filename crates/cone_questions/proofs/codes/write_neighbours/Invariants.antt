-- As many cells may be made as before.
use Rattle.std.proofs.Common.{◌≡◌}
use Rattle.cone_questions.proofs.codes.write_neighbours.Given as goal

abbrev pub invariant-loop-side : goal.invariant-loop-side
invariant-loop-side l = l.patches.most ≡ l.fn.patches.most
