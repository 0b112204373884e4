use Rattle.std.proofs.Common.{Err, ap, subst}
use Rattle.step_engine.specs.declared.fault.StepFault.TheVariants.{Deep}
use Rattle.derivation_log.proofs.Far.{same_fault}
use Rattle.derivation_log.specs.Passing.{PassesFar}
use Rattle.derivation_log.proofs.Steps.{following_on, following_far, following_whole}
use Rattle.derivation_log.proofs.pen.log_to_word.Goals as goal

pub returns-in_err-step-clause-deep : goal.returns-in_err-step-clause-deep
returns-in_err-step-clause-deep c = λ e.
    let fault = same_fault c.from_residual-in_err-step.result c.in_err-step.field-0.0 Deep c.from_residual-in_err-step.ensures.1 e in
    let far = following_far c.args.r.now c.accepted.ensures c.args.kind c.requires c.letters-x-items.result.now c.loop-x.x-index _ c.loop-x.pen c.loop-x-test.true c.loop-x.invariant (c.in_err-step.ensures.only_crossings (ap Err fault)) (c.in_err-step.ensures.deep (ap Err fault)) in
    subst (λ w. PassesFar c.args.r.now.kinds c.args.kind w) c.letters-x-items.ensures far

pub loop-x-preserved : goal.loop-x-preserved
loop-x-preserved c =
    following_on c.args.r.now c.accepted.ensures c.args.kind c.requires c.letters-x-items.result.now c.loop-x.x-index _ c.loop-x.pen c.step.new.self c.loop-x-test.true c.loop-x.invariant c.in_ok-step.ensures.stepped

pub returns-clause-leads : goal.returns-clause-leads
returns-clause-leads c =
    following_whole c.args.r.now c.accepted.ensures c.args.kind c.requires c.args.w.now c.letters-x-items.result.now c.loop-x.x-index c.loop-x.pen c.loop-x-test.false c.letters-x-items.ensures c.loop-x.invariant
