use Rattle.std.proofs.Common.{Err, subst, sym, ap, ◌∙◌}
use Rattle.spot_laws.specs.Spots.{IsSpot, position}
use Rattle.step_engine.specs.declared.fault.StepFault.TheVariants.{Deep}
use Rattle.step_engine.specs.Crossings.{WalkLeadsTo, WalksDeep}
use Rattle.step_engine.specs.Detours.{IsDetour}
use Rattle.step_engine.proofs.Detours.{sides_small}
use Rattle.step_engine.proofs.Walks.{same_fault, walking_starts, walking_on, walking_deep, walking_whole, walked_only, walked_place, walked_near}
use Rattle.step_engine.proofs.steps.walk_over.Goals as goal

pub loop-x-init : goal.loop-x-init
loop-x-init g c =
    let r = g.C.Crossing.accepted c.args.crossing.now in
    walking_starts r c.args.s.now c.requires 4000 c.rules.result.now c.start-detour.result c.rules.ensures c.start-detour.ensures

pub step-requires : goal.step-requires
step-requires g c =
    subst (λ r. IsDetour r c.args.s.now c.loop-x.detour) (sym c.loop-x.invariant.same) c.loop-x.invariant.walked.detour

pub returns-in_err-step-clause-rules : goal.returns-in_err-step-clause-rules
returns-in_err-step-clause-rules g c = c.step.ensures.rules ∙ c.loop-x.invariant.same

pub returns-in_err-step-clause-deep : goal.returns-in_err-step-clause-deep
returns-in_err-step-clause-deep g c = λ e.
    let r = g.C.Crossing.accepted c.args.crossing.now in
    let fault = same_fault c.from_residual.result c.in_err-step.field-0.0 Deep c.from_residual.ensures.1 e in
    let crosses = c.in_err-step.ensures.only_crossings (ap Err fault) in
    let deep = c.in_err-step.ensures.deep (ap Err fault) in
    let walked = walking_deep r c.args.s.now c.requires 4000 (g.C.Crossing.accepted c.loop-x.crossing) c.letters-x-items.result.now c.loop-x.x-index _ c.loop-x.detour c.loop-x-test.true c.loop-x.invariant crosses deep in
    subst (λ w. WalksDeep r c.args.s.now w 4000) c.letters-x-items.ensures walked

pub loop-x-preserved : goal.loop-x-preserved
loop-x-preserved g c =
    let r = g.C.Crossing.accepted c.args.crossing.now in
    walking_on r c.args.s.now c.requires 4000 (g.C.Crossing.accepted c.loop-x.crossing) (g.C.Crossing.accepted c.step.new.crossing) c.letters-x-items.result.now c.loop-x.x-index _ c.loop-x.detour c.step.new.detour c.loop-x-test.true c.loop-x.invariant c.step.ensures.rules c.in_ok-step.ensures.stepped

pub finish-requires-clause-shape : goal.finish-requires-clause-shape
finish-requires-clause-shape g c = c.loop-x.invariant.walked.detour.shape

pub finish-requires-clause-below : goal.finish-requires-clause-below
finish-requires-clause-below g c =
    let detour = c.loop-x.invariant.walked.detour in
    sides_small (g.C.Crossing.accepted c.args.crossing.now) detour.sound c.args.s.now c.loop-x.detour detour

pub returns-in_err-finish-clause-rules : goal.returns-in_err-finish-clause-rules
returns-in_err-finish-clause-rules g c = c.loop-x.invariant.same

pub returns-clause-rules : goal.returns-clause-rules
returns-clause-rules g c = c.loop-x.invariant.same

pub returns-clause-spot : goal.returns-clause-spot
returns-clause-spot g c =
    let r = g.C.Crossing.accepted c.args.crossing.now in
    subst (IsSpot r) (sym c.in_ok-finish.ensures.there) c.loop-x.invariant.walked.detour.spot

pub returns-clause-leads : goal.returns-clause-leads
returns-clause-leads g c =
    let r = g.C.Crossing.accepted c.args.crossing.now in
    let walked = walking_whole r c.args.s.now c.requires 4000 (g.C.Crossing.accepted c.loop-x.crossing) c.args.w.now c.letters-x-items.result.now c.loop-x.x-index c.loop-x.detour c.loop-x-test.false c.letters-x-items.ensures c.loop-x.invariant in
    subst (λ t. WalkLeadsTo r c.args.s.now c.args.w.now (position t)) (sym c.in_ok-finish.ensures.there) walked.leads

pub returns-clause-only : goal.returns-clause-only
returns-clause-only g c = λ q leads.
    let r = g.C.Crossing.accepted c.args.crossing.now in
    let walked = walking_whole r c.args.s.now c.requires 4000 (g.C.Crossing.accepted c.loop-x.crossing) c.args.w.now c.letters-x-items.result.now c.loop-x.x-index c.loop-x.detour c.loop-x-test.false c.letters-x-items.ensures c.loop-x.invariant in
    walked_only r walked.detour.sound c.args.s.now c.requires c.args.w.now 4000 c.loop-x.detour c.finish.new.s walked c.in_ok-finish.ensures.there q leads

pub returns-clause-place : goal.returns-clause-place
returns-clause-place g c = λ u before.
    let r = g.C.Crossing.accepted c.args.crossing.now in
    let walked = walking_whole r c.args.s.now c.requires 4000 (g.C.Crossing.accepted c.loop-x.crossing) c.args.w.now c.letters-x-items.result.now c.loop-x.x-index c.loop-x.detour c.loop-x-test.false c.letters-x-items.ensures c.loop-x.invariant in
    walked_place r walked.detour.sound c.args.s.now c.requires u c.args.w.now 4000 c.loop-x.detour c.finish.new.s walked c.in_ok-finish.ensures.there before

pub returns-clause-too_deep : goal.returns-clause-too_deep
returns-clause-too_deep g c = λ deep.
    let r = g.C.Crossing.accepted c.args.crossing.now in
    let walked = walking_whole r c.args.s.now c.requires 4000 (g.C.Crossing.accepted c.loop-x.crossing) c.args.w.now c.letters-x-items.result.now c.loop-x.x-index c.loop-x.detour c.loop-x-test.false c.letters-x-items.ensures c.loop-x.invariant in
    absurd (walked_near r walked.detour.sound c.args.s.now c.requires c.args.w.now 4000 c.loop-x.detour walked deep)
