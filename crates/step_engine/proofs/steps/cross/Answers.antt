use Rattle.step_engine.proofs.Far.{crosses_far, crosses_deep}
use Rattle.step_engine.proofs.steps.cross.Goals as goal

pub returns-clause-far : goal.returns-clause-far
returns-clause-far c = λ e.
    let far = crosses_far c.args.r.now c.accepted.ensures c.args.s.now c.requires 4000 in
    far (c.cross_by_detour.ensures.deep e)

pub returns-clause-too_far : goal.returns-clause-too_far
returns-clause-too_far c = λ far.
    let deep = crosses_deep c.args.r.now c.accepted.ensures c.args.s.now c.requires 4000 in
    c.cross_by_detour.ensures.too_deep (deep far)
