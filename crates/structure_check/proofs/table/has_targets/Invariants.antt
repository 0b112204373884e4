use Rattle.std.proofs.Common.{ℕ, ◌<◌}
use Rattle.structure_check.specs.Search.{HasTargetsAt}
use Rattle.structure_check.proofs.table.has_targets.Given as goal

abbrev pub invariant-loop-i : goal.invariant-loop-i
invariant-loop-i l = (i : ℕ) → i < l.i → HasTargetsAt l.a l.s i
