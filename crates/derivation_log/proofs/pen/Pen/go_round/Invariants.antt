use Rattle.derivation_log.proofs.Contours.{Going, rest}
use Rattle.derivation_log.proofs.pen.Pen.go_round.Given as goal

abbrev pub invariant-loop : goal.invariant-loop
invariant-loop l = Going l.r l.fn.self l.self l.brackets

abbrev pub decreases-loop : goal.decreases-loop
decreases-loop l = rest l.r l.fn.self l.self l.brackets
