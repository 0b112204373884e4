use Rattle.std.proofs.Common.{◌≡◌, ◌+◌, ◌-◌, ◌%◌, ◌<◌}
use Rattle.turn_rules.proofs.sides.right_by.Given as goal

abbrev pub invariant-loop-there : goal.invariant-loop-there
invariant-loop-there l = record { same : l.there % l.sides ≡ l.side; few : l.there < l.count + l.sides }

abbrev pub decreases-loop-there : goal.decreases-loop-there
decreases-loop-there l = l.count - l.there
