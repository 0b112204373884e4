use Rattle.std.proofs.Common.{◌∙◌, ◌≢◌, [], sym, ap, subst, arith, length}
use Rattle.tree_model.specs.Names.{word}
use Rattle.tree_model.specs.Positions.{Position}
use Rattle.spot_laws.specs.Spots.{TreeSpot}
use Rattle.derivation_log.proofs.Letters.{word_up}
use Rattle.derivation_log.proofs.place.Place.up.Goals as goal

pub overflow_sub-self : goal.overflow_sub-self
overflow_sub-self c =
    let side = c.spin.ensures ∙ ap (λ (p : Position). p.side) c.up.ensures.stands in
    let some = subst (λ (s : TreeSpot). s.name ≢ []) (sym c.self.view_is) c.requires.no_root in
    omega (arith, side, c.self.invariant, word_up c.self.inside.spot.name some)

pub invariant_of-self : goal.invariant_of-self
invariant_of-self c =
    let side = c.spin.ensures ∙ ap (λ (p : Position). p.side) c.up.ensures.stands in
    let above = ap (λ (p : Position). length (word p.name)) c.up.ensures.stands in
    let some = subst (λ (s : TreeSpot). s.name ≢ []) (sym c.self.view_is) c.requires.no_root in
    omega (arith, side, above, c.self.invariant, word_up c.self.inside.spot.name some)
