-- As many cone types were read as there were turns.
use Rattle.std.proofs.Common.{◌≡◌, ◌≤◌, length}
use Rattle.cone_questions.proofs.questions.Questions.read_rest.Given as goal

abbrev pub invariant-loop-number : goal.invariant-loop-number
invariant-loop-number l = record {
  types : length l.cones.types.items ≡ l.number;
  kept : length l.fn.cones.types.items ≤ length l.cones.types.items;
  most : l.patches.most ≡ l.fn.patches.most;
}
