-- No cone type was added, and no cell taken away.
use Rattle.std.proofs.Common.{◌≡◌, ◌≤◌, length}
use Rattle.cone_questions.proofs.questions.Questions.read_type.Given as goal

abbrev pub invariant-loop-i : goal.invariant-loop-i
invariant-loop-i l = record {
  types : l.cones.types ≡ l.fn.cones.types;
  cells : length l.fn.cones.cells.items ≤ length l.cones.cells.items;
  most : l.patches.most ≡ l.fn.patches.most;
}
