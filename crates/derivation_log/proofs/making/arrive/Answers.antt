use Rattle.std.proofs.Common.{Err, ap}
use Rattle.step_engine.specs.declared.fault.StepFault.TheVariants.{Deep}
use Rattle.derivation_log.proofs.Far.{deep_passes, passes_deep, was_no_fault, same_fault}
use Rattle.derivation_log.proofs.making.arrive.Goals as goal

pub returns-in_err-walk-clause-deep : goal.returns-in_err-walk-clause-deep
returns-in_err-walk-clause-deep c = λ e.
    let fault = same_fault c.from_residual-in_err-walk.result c.in_err-walk.field-0.0 Deep c.from_residual-in_err-walk.ensures.1 e in
    deep_passes c.args.r.now c.accepted.ensures c.args.kind c.requires c.in_ok-spot.spot c.in_ok-spot.ensures c.args.w.now (c.in_err-walk.ensures.deep (ap Err fault))

pub returns-clause-too_deep : goal.returns-clause-too_deep
returns-clause-too_deep c = λ far.
    let deep = passes_deep c.args.r.now c.accepted.ensures c.args.kind c.requires c.in_ok-spot.spot c.in_ok-spot.ensures c.args.w.now far in
    absurd (was_no_fault c.walk.result c.in_ok-walk.field-0 c.in_ok-walk.was (c.walk.ensures.too_deep deep))
