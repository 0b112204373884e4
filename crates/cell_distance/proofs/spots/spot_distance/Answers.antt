use Rattle.std.proofs.Common.{Err, ap, ◌∙◌, subst, sym}
use Rattle.tile_model.specs.Relation.{IsDistance}
use Rattle.tile_model.proofs.Relations.{related_back}
use Rattle.tree_model.specs.Names.{word}
use Rattle.tree_model.specs.Places.{IsPlace, position_word}
use Rattle.tree_laws.proofs.Between.{distance_by_place}
use Rattle.spot_laws.specs.Spots.{position, root_kind}
use Rattle.cell_distance.specs.declared.fault.DistFault.TheVariants.{Deep}
use Rattle.cell_distance.proofs.Cancelling.{far_from}
use Rattle.cell_distance.proofs.Leaving.{stays_deep, was_told}
use Rattle.cell_distance.proofs.Spotted.{distance_of_walks}
use Rattle.cell_distance.proofs.spots.spot_distance.Goals as goal

pub returns-in_err-there-clause-deep : goal.returns-in_err-there-clause-deep
returns-in_err-there-clause-deep c = λ e u stands.
    let sound = c.go_between_spots.ensures.sound in
    let fault = stays_deep c.in_err-there.field-0.0 c.from_residual.result c.from_residual.ensures.1 e in
    far_from c.args.r.now.kinds c.args.r.now.automaton (root_kind c.args.r.now c.args.s.now) sound.valid sound.accepted c.requires.first.known (position_word (position c.args.s.now)) u (word c.args.t.now.name) stands.related (c.in_err-there.ensures.deep (ap Err fault))

pub returns-clause-least : goal.returns-clause-least
returns-clause-least c = λ u w first second.
    let sound = c.go_between_spots.ensures.sound in
    let k = root_kind c.args.r.now c.args.s.now in
    let there = c.in_ok-there.there in
    let on = subst (λ j. IsPlace c.args.r.now.kinds c.args.r.now.automaton j w (position c.args.t.now)) c.requires.tree second in
    let depth = distance_by_place c.args.r.now.kinds c.args.r.now.automaton k sound.valid sound.accepted c.requires.first.known (position_word (position c.args.s.now)) (word c.args.t.now.name) (position there) c.in_ok-there.ensures.arrives.place in
    subst (λ n. IsDistance c.args.r.now.kinds (k, 0) u w n) (sym c.level.ensures)
    (distance_of_walks c.args.r.now.kinds c.args.r.now.automaton k sound.valid sound.accepted c.requires.first.known (position c.args.s.now) (position c.args.t.now) u w first on _ depth)

pub returns-clause-too_deep : goal.returns-clause-too_deep
returns-clause-too_deep c = λ u stands far.
    let sound = c.go_between_spots.ensures.sound in
    let back = far_from c.args.r.now.kinds c.args.r.now.automaton (root_kind c.args.r.now c.args.s.now) sound.valid sound.accepted c.requires.first.known u (position_word (position c.args.s.now)) (word c.args.t.now.name) (related_back c.args.r.now.kinds stands.related) far in
    absurd (was_told c.go_between_spots.result _ c.in_ok-there.was (c.go_between_spots.ensures.too_deep back))
