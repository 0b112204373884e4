-- As many corner types as classes so far.
use Rattle.std.proofs.Common.{◌≡◌, length}
use Rattle.corner_congruence.proofs.classes.corner_types_of.Given as goal

abbrev pub invariant-loop-class : goal.invariant-loop-class
invariant-loop-class l = length l.corners.items ≡ l.class-index
