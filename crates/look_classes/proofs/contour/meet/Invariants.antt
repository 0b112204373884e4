-- The darts with lesser numbers.
use Rattle.std.proofs.Common.{◌≡◌, ℕ, ◌<◌, None}
use Rattle.coincidence.specs.Darts.{unpack}
use Rattle.coincidence.specs.Tables.{joined_to}
use Rattle.region_grower.specs.Ways.{IsDart}
use Rattle.look_classes.specs.Contours.{AreMet, AllOpenMet, steps_at}
use Rattle.look_classes.proofs.contour.meet.Given as goal

abbrev pub invariant-loop-number : goal.invariant-loop-number
invariant-loop-number l = record {
  met : AreMet l.tree l.met;
  meets : (n : ℕ) → n < l.number → IsDart l.tree.table (unpack n) → joined_to l.tree.table (unpack n) ≡ None → 0 < steps_at l.met (unpack n);
}

abbrev pub invariant-loop-number-2 : goal.invariant-loop-number-2
invariant-loop-number-2 l = record {
  met : AreMet l.tree l.met;
  opened : AllOpenMet l.tree l.met;
  meets : (n : ℕ) → n < l.number → IsDart l.tree.table (unpack n) → 0 < steps_at l.met (unpack n);
}
