-- The spot has arrived from the type of the end of the first walk, by the way between the two.
use Rattle.std.proofs.Common.{Err, sym, ap, ap₂, ◌∙◌, subst}
use Rattle.tile_model.specs.Tessellations.{IsType}
use Rattle.tile_model.specs.Walks.{type_of}
use Rattle.cell_distance.specs.Passing.{ArrivesFrom}
use Rattle.cell_distance.specs.declared.fault.DistFault.TheVariants.{Deep}
use Rattle.cell_distance.proofs.Leaving.{side_within, arrives, passes, leads, stays_deep, was_told}
use Rattle.cell_distance.proofs.between.go_between.Goals as goal

pub arrive-requires-clause-side : goal.arrive-requires-clause-side
arrive-requires-clause-side c =
    let sound = c.tessellation-t.ensures.sound in
    side_within c.args.r.now.kinds c.args.r.now.automaton c.args.kind sound.valid sound.accepted c.requires (c.from.inside.kind, c.from.inside.residue) (subst (λ t. IsType t (c.from.inside.kind, c.from.inside.residue)) c.tessellation-t.ensures.value (subst (λ d. IsType c.tessellation-t.result.now d) (sym c.from.view_is) c.type_of-from.ensures.is_type))

pub returns-in_err-there-clause-deep : goal.returns-in_err-there-clause-deep
returns-in_err-there-clause-deep c = λ e.
    let sound = c.tessellation-t.ensures.sound in
    let fault = stays_deep c.in_err-there.field-0.0 c.from_residual-in_err-there.result c.from_residual-in_err-there.ensures.1 e in
    passes c.args.r.now.kinds c.args.r.now.automaton c.args.kind sound.valid sound.accepted c.requires c.args.u.now c.args.w.now c.in_ok-way.way c.in_ok-way.ensures c.from.inside.kind c.from.inside.residue (c.from.view_is ∙ (c.type_of-from.ensures.value ∙ ap₂ (λ t d. type_of t d c.args.u.now) c.tessellation-t.ensures.value c.start.ensures.value)) (c.in_err-there.ensures.deep (ap Err fault))

pub returns-clause-arrives : goal.returns-clause-arrives
returns-clause-arrives c =
    let sound = c.tessellation-t.ensures.sound in
    subst (λ from. ArrivesFrom c.args.r.now.kinds c.args.r.now.automaton c.args.kind c.args.u.now c.args.w.now from c.in_ok-there.there) c.from.view_is
    (arrives c.args.r.now.kinds c.args.r.now.automaton c.args.kind sound.valid sound.accepted c.requires c.args.u.now c.args.w.now c.in_ok-way.way c.in_ok-way.ensures c.from.inside.kind c.from.inside.residue (c.from.view_is ∙ (c.type_of-from.ensures.value ∙ ap₂ (λ t d. type_of t d c.args.u.now) c.tessellation-t.ensures.value c.start.ensures.value)) c.in_ok-there.there c.in_ok-there.ensures.leads c.in_ok-there.ensures.near)

pub returns-clause-too_deep : goal.returns-clause-too_deep
returns-clause-too_deep c = λ far.
    let sound = c.tessellation-t.ensures.sound in
    let there = leads c.args.r.now.kinds c.args.r.now.automaton c.args.kind sound.valid sound.accepted c.requires c.args.u.now c.args.w.now c.in_ok-way.way c.in_ok-way.ensures c.from.inside.kind c.from.inside.residue (c.from.view_is ∙ (c.type_of-from.ensures.value ∙ ap₂ (λ t d. type_of t d c.args.u.now) c.tessellation-t.ensures.value c.start.ensures.value)) far in
    absurd (was_told c.arrive.result c.in_ok-there.there c.in_ok-there.was (c.arrive.ensures.too_deep there))
