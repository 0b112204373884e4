-- Nothing was met.
use Rattle.std.proofs.Common.{◌≡◌, replicate}
use Rattle.look_classes.specs.Contours.{not_met}
use Rattle.look_classes.proofs.contour.meet_all.Given as goal

abbrev pub invariant-loop-dart : goal.invariant-loop-dart
invariant-loop-dart l = l.met.items ≡ replicate l.dart not_met
