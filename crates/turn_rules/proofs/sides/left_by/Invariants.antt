use Rattle.std.proofs.Common.{◌≡◌, ◌+◌, ◌%◌, ◌≤◌}
use Rattle.turn_rules.proofs.sides.left_by.Given as goal

abbrev pub invariant-loop-there : goal.invariant-loop-there
invariant-loop-there l = record { same : l.there % l.sides ≡ (l.side + l.count) % l.sides; few : l.there ≤ l.side + l.count }

abbrev pub decreases-loop-there : goal.decreases-loop-there
decreases-loop-there l = l.there
