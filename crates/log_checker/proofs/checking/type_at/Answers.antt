use Rattle.std.proofs.Common.{◌<◌, ◌-◌, ◌∙◌, slice_index_or, ap, subst, sym, arith}
use Rattle.tile_model.specs.Tessellations.{IsType}
use Rattle.tile_model.specs.Walks.{step}
use Rattle.log_checker.specs.Footprints.{TypedLetter}
use Rattle.log_checker.proofs.TypesAt.{is_type_before, type_at_place}
use Rattle.log_checker.proofs.checking.type_at.Goals as goal

pub after-requires : goal.after-requires
after-requires c =
    let some : 0 < c.args.place = omega (arith, c.if-place-eq0.false) in
    let p = c.index-pieces-near.result in
    let m = c.index-footprints-place.result in
    let is = c.index-footprints-place.is ∙ ap (λ q. slice_index_or q (c.args.place - c.args.near.before - 1) m) c.footprints.ensures in
    let e = ap (λ (x : TypedLetter). x.1) c.last.view_is in
    subst (IsType c.args.t.now) (sym e) (is_type_before c.args.t.now c.args.from c.args.pieces.now c.args.near.index c.args.near.before c.args.place p m c.requires.typed c.requires.covers some c.index-pieces-near.is is c.requires.valid c.requires.is_type)

pub returns-clause-value : goal.returns-clause-value
returns-clause-value c =
    let some : 0 < c.args.place = omega (arith, c.if-place-eq0.false) in
    let p = c.index-pieces-near.result in
    let m = c.index-footprints-place.result in
    let is = c.index-footprints-place.is ∙ ap (λ q. slice_index_or q (c.args.place - c.args.near.before - 1) m) c.footprints.ensures in
    let e = ap (λ (x : TypedLetter). step c.args.t.now x.1 x.0) c.last.view_is in
    c.after.ensures.value ∙ e ∙ type_at_place c.args.t.now c.args.from c.args.pieces.now c.args.near.index c.args.near.before c.args.place p m c.requires.typed c.requires.covers some c.index-pieces-near.is is
