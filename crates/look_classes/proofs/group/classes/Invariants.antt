-- So far.
use Rattle.std.proofs.Common.{◌≡◌}
use Rattle.look_classes.proofs.group.classes.Given as goal

abbrev pub invariant-loop-step : goal.invariant-loop-step
invariant-loop-step l = record {
  region : l.looks.region ≡ l.g;
  horizon : l.looks.horizon ≡ l.step;
}
