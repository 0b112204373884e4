use Rattle.std.proofs.Common.{take, ◌≡◌}
use Rattle.step_engine.proofs.Walks.{Walking}
use Rattle.step_engine.proofs.steps.walk_over.Given as goal

abbrev pub invariant-loop-x : goal.invariant-loop-x
invariant-loop-x g l = Walking (g.C.Crossing.accepted l.fn.crossing) (g.C.Crossing.accepted l.crossing) l.fn.s (take l.x-index l.x-items) 4000 l.detour
