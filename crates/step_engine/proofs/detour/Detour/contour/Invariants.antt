use Rattle.step_engine.proofs.Contours.{Going, rest}
use Rattle.step_engine.proofs.detour.Detour.contour.Given as goal

abbrev pub invariant-loop : goal.invariant-loop
invariant-loop l = Going l.r l.s l.leftwards l.fn.self l.self l.brackets

abbrev pub decreases-loop : goal.decreases-loop
decreases-loop l = rest l.r l.s l.leftwards l.fn.self l.self l.brackets
