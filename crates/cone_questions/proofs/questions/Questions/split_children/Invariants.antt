-- As many cells may be made as before, and no cone type was taken away.
use Rattle.std.proofs.Common.{◌≡◌, ◌≤◌, length}
use Rattle.cone_questions.proofs.questions.Questions.split_children.Given as goal

abbrev pub invariant-loop-side : goal.invariant-loop-side
invariant-loop-side l = record {
  kept : length l.fn.cones.types.items ≤ length l.cones.types.items;
  most : l.patches.most ≡ l.fn.patches.most;
}
