-- As many cells may be made as before, and no cone type was taken away.
use Rattle.std.proofs.Common.{◌≡◌, ◌≤◌, length}
use Rattle.cone_questions.proofs.questions.Questions.split.Given as goal

abbrev pub invariant-loop-number : goal.invariant-loop-number
invariant-loop-number l = record {
  kept : length l.fn.cones.types.items ≤ length l.cones.types.items;
  most : l.patches.most ≡ l.fn.patches.most;
}
