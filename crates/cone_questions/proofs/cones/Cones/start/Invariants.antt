-- One cell for each kind before this one.
use Rattle.std.proofs.Common.{◌≡◌, length}
use Rattle.cone_questions.proofs.cones.Cones.start.Given as goal

abbrev pub invariant-loop-kind : goal.invariant-loop-kind
invariant-loop-kind l = length l.cells.items ≡ l.kind
