use Rattle.std.proofs.Common.{◌++◌, List, Err, ap, replicate}
use Rattle.tile_model.specs.declared.Letter.{Letter}
use Rattle.tile_model.specs.declared.Letter.TheVariants.{L}
use Rattle.tile_model.specs.Walks.{inverse}
use Rattle.tree_model.specs.Names.{word}
use Rattle.step_engine.specs.declared.fault.StepFault.TheVariants.{Deep}
use Rattle.step_engine.proofs.Detours.{sides_small}
use Rattle.step_engine.proofs.Walks.{same_fault}
use Rattle.step_engine.proofs.Underway.{starts_back, back_deep, back_on, onwards_deep, onwards_on}
use Rattle.step_engine.proofs.names.walk_between.Goals as goal

pub loop-last-init : goal.loop-last-init
loop-last-init c =
    starts_back c.args.r.now c.start-detour.ensures.detour.sound c.args.s.now c.requires 4000 c.args.back.now c.args.onwards.now c.args.spin c.start-detour.result c.turn_rights.new.self c.start-detour.ensures c.turn_rights.ensures

pub returns-in_err-cross-clause-deep : goal.returns-in_err-cross-clause-deep
returns-in_err-cross-clause-deep c = λ e.
    let whole : List Letter = inverse (word c.args.back.now ++ replicate c.args.spin L) ++ word c.args.onwards.now in
    let fault = same_fault c.from_residual.result c.in_err-cross.field-0.0 Deep c.from_residual.ensures.1 e in
    back_deep c.args.r.now c.start-detour.ensures.detour.sound c.args.s.now c.requires 4000 whole c.loop-last.rest.now c.in-Some.before.now c.args.onwards.now c.in-Some.last.now c.in-Some.ensures.cases.0 c.loop-last.detour c.loop-last.invariant
    (c.in_err-cross.ensures.deep (ap Err fault))

pub loop-last-preserved : goal.loop-last-preserved
loop-last-preserved c =
    let whole : List Letter = inverse (word c.args.back.now ++ replicate c.args.spin L) ++ word c.args.onwards.now in
    back_on c.args.r.now c.start-detour.ensures.detour.sound c.args.s.now c.requires 4000 whole c.loop-last.rest.now c.in-Some.before.now c.args.onwards.now c.in-Some.last.now c.in-Some.ensures.cases.0 c.loop-last.detour c.loop-last.invariant
    c.cross.new.self c.turn_rights-in-Some.new.self c.in_ok-cross.ensures.crossed c.in_ok-cross.ensures.near c.turn_rights-in-Some.ensures

pub returns-in_err-cross-2-clause-deep : goal.returns-in_err-cross-2-clause-deep
returns-in_err-cross-2-clause-deep c = λ e.
    let whole : List Letter = inverse (word c.args.back.now ++ replicate c.args.spin L) ++ word c.args.onwards.now in
    let fault = same_fault c.from_residual-in_err-cross-2.result c.in_err-cross-2.field-0.0 Deep c.from_residual-in_err-cross-2.ensures.1 e in
    onwards_deep c.args.r.now c.start-detour.ensures.detour.sound c.args.s.now c.requires 4000 whole c.args.onwards.now c.loop-side.side-index _ c.loop-side-test.true c.loop-side.detour c.turn_lefts.new.self c.loop-side.invariant c.turn_lefts.ensures
    (c.in_err-cross-2.ensures.deep (ap Err fault))

pub loop-side-preserved : goal.loop-side-preserved
loop-side-preserved c =
    let whole : List Letter = inverse (word c.args.back.now ++ replicate c.args.spin L) ++ word c.args.onwards.now in
    onwards_on c.args.r.now c.start-detour.ensures.detour.sound c.args.s.now c.requires 4000 whole c.args.onwards.now c.loop-side.side-index _ c.loop-side-test.true c.loop-side.detour c.turn_lefts.new.self c.loop-side.invariant c.turn_lefts.ensures
    c.cross-in-loop-side.new.self c.in_ok-cross-2.ensures.crossed c.in_ok-cross-2.ensures.near

pub finish-requires-clause-below : goal.finish-requires-clause-below
finish-requires-clause-below c =
    let detour = c.loop-side.invariant.walked.detour in
    sides_small c.args.r.now detour.sound c.args.s.now c.loop-side.detour detour
