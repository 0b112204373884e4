use Rattle.structure_check.proofs.Rounding.{IsRounding}
use Rattle.structure_check.proofs.cycles.round.Given as goal

abbrev pub invariant-loop-link : goal.invariant-loop-link
invariant-loop-link l = IsRounding l.a l.x l.link l.y l.sum l.least
