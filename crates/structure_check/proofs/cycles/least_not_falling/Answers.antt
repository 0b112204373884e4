use Rattle.std.proofs.Common.{replicate, subst, sym}
use Rattle.structure_check.proofs.Judging.{IsFar, far_none}
use Rattle.structure_check.proofs.cycles.least_not_falling.Goals as goal

pub loop-g-init : goal.loop-g-init
loop-g-init c = subst (λ n. IsFar c.args.a.now (replicate 20000 0) n 0) (sym c.count-corners.ensures) (far_none c.args.a.now)
