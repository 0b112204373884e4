-- At most as many as entries so far, and each stands for its class.
use Rattle.std.proofs.Common.{◌≤◌, length}
use Rattle.cone_types.specs.Representatives.{StandForClasses}
use Rattle.corner_congruence.specs.Merged.{renamed_corner}
use Rattle.corner_congruence.proofs.merging.merged_corners.Given as goal

abbrev pub invariant-loop-entry : goal.invariant-loop-entry
invariant-loop-entry l = record {
  few : length l.merged.items ≤ l.entry;
  stand : StandForClasses (renamed_corner l.classes) l.classes l.corners l.merged.items;
}
