-- The spot has arrived from the side that the first one faces, by the way between the two.
use Rattle.std.proofs.Common.{◌-◌, List, length, take, drop, Err, sym, ap, ◌∙◌, subst, arith}
use Rattle.tile_model.specs.declared.Letter.{Letter}
use Rattle.tile_model.specs.Tessellations.{IsType}
use Rattle.tree_model.specs.Names.{word}
use Rattle.tree_model.specs.Places.{position_word}
use Rattle.tree_laws.proofs.Words.{word_type, crossings_position}
use Rattle.spot_laws.specs.Spots.{position, root_kind}
use Rattle.cell_distance.specs.Passing.{LeavesOut, ArrivesFrom}
use Rattle.cell_distance.proofs.Cancelling.{far_onwards, far_inwards}
use Rattle.cell_distance.proofs.Leaving.{side_within, arrives, passes, leads, stays_deep, was_told}
use Rattle.cell_distance.proofs.Spotted.{way, parts_leave_out}
use Rattle.cell_distance.proofs.spots.go_between_spots.Goals as goal

pub arrive_between-requires-clause-side : goal.arrive_between-requires-clause-side
arrive_between-requires-clause-side c =
    let sound = c.faced_type-from.ensures.sound in
    side_within c.args.r.now.kinds c.args.r.now.automaton (root_kind c.args.r.now c.args.s.now) sound.valid sound.accepted c.requires.first.known (c.from.inside.kind, c.from.inside.residue) (subst (λ d. IsType c.args.r.now.kinds d) (sym c.from.view_is) c.faced_type-from.ensures.is_type)

pub returns-in_err-there-clause-deep : goal.returns-in_err-there-clause-deep
returns-in_err-there-clause-deep c = λ e.
    let sound = c.faced_type-from.ensures.sound in
    let k = root_kind c.args.r.now c.args.s.now in
    let u = position_word (position c.args.s.now) in
    let n = c.shared-kept.result in
    let apart : List Letter = way (take (length c.sides-3.result.now - n) (drop n c.sides-3.result.now)) c.spin.result (take (length c.sides-4.result.now - n) (drop n c.sides-4.result.now)) in
    let leaves : LeavesOut (position_word (position c.args.s.now)) (word c.args.t.now.name) apart =
    parts_leave_out c.args.s.now.name c.args.t.now.name c.sides.result.now c.sides-2.result.now c.sides-3.result.now c.sides-4.result.now c.args.s.now.spin c.spin.result n
    (c.sides.ensures.value ∙ c.name.ensures) (c.sides-2.ensures.value ∙ c.name-2.ensures) (c.sides-3.ensures.value ∙ c.name-3.ensures) (c.sides-4.ensures.value ∙ c.name-4.ensures) c.spin.ensures c.shared-kept.ensures.same c.requires.near in
    let start = c.from.view_is ∙ c.faced_type-from.ensures.value ∙ sym (word_type c.args.r.now.kinds c.args.r.now.automaton k sound.valid sound.accepted c.requires.first.known (position c.args.s.now) c.requires.first.there) in
    let fault = stays_deep c.in_err-there.field-0.0 c.from_residual.result c.from_residual.ensures.1 e in
    let far = passes c.args.r.now.kinds c.args.r.now.automaton k sound.valid sound.accepted c.requires.first.known u (word c.args.t.now.name) apart leaves c.from.inside.kind c.from.inside.residue start (c.in_err-there.ensures.deep (ap Err fault)) in
    far_onwards c.args.r.now.kinds c.args.r.now.automaton k sound.valid sound.accepted c.requires.first.known u (word c.args.t.now.name) (omega (arith, c.requires.near, crossings_position (position c.args.s.now))) far

pub returns-clause-arrives : goal.returns-clause-arrives
returns-clause-arrives c =
    let sound = c.faced_type-from.ensures.sound in
    let k = root_kind c.args.r.now c.args.s.now in
    let u = position_word (position c.args.s.now) in
    let n = c.shared-kept.result in
    let apart : List Letter = way (take (length c.sides-3.result.now - n) (drop n c.sides-3.result.now)) c.spin.result (take (length c.sides-4.result.now - n) (drop n c.sides-4.result.now)) in
    let leaves : LeavesOut (position_word (position c.args.s.now)) (word c.args.t.now.name) apart =
    parts_leave_out c.args.s.now.name c.args.t.now.name c.sides.result.now c.sides-2.result.now c.sides-3.result.now c.sides-4.result.now c.args.s.now.spin c.spin.result n
    (c.sides.ensures.value ∙ c.name.ensures) (c.sides-2.ensures.value ∙ c.name-2.ensures) (c.sides-3.ensures.value ∙ c.name-3.ensures) (c.sides-4.ensures.value ∙ c.name-4.ensures) c.spin.ensures c.shared-kept.ensures.same c.requires.near in
    let start = c.from.view_is ∙ c.faced_type-from.ensures.value ∙ sym (word_type c.args.r.now.kinds c.args.r.now.automaton k sound.valid sound.accepted c.requires.first.known (position c.args.s.now) c.requires.first.there) in
    subst (λ from. ArrivesFrom c.args.r.now.kinds c.args.r.now.automaton k u (word c.args.t.now.name) from c.in_ok-there.there) c.from.view_is
    (arrives c.args.r.now.kinds c.args.r.now.automaton k sound.valid sound.accepted c.requires.first.known u (word c.args.t.now.name) apart leaves c.from.inside.kind c.from.inside.residue start c.in_ok-there.there c.in_ok-there.ensures.leads c.in_ok-there.ensures.near)

pub returns-clause-too_deep : goal.returns-clause-too_deep
returns-clause-too_deep c = λ far.
    let sound = c.faced_type-from.ensures.sound in
    let k = root_kind c.args.r.now c.args.s.now in
    let u = position_word (position c.args.s.now) in
    let n = c.shared-kept.result in
    let apart : List Letter = way (take (length c.sides-3.result.now - n) (drop n c.sides-3.result.now)) c.spin.result (take (length c.sides-4.result.now - n) (drop n c.sides-4.result.now)) in
    let leaves : LeavesOut (position_word (position c.args.s.now)) (word c.args.t.now.name) apart =
    parts_leave_out c.args.s.now.name c.args.t.now.name c.sides.result.now c.sides-2.result.now c.sides-3.result.now c.sides-4.result.now c.args.s.now.spin c.spin.result n
    (c.sides.ensures.value ∙ c.name.ensures) (c.sides-2.ensures.value ∙ c.name-2.ensures) (c.sides-3.ensures.value ∙ c.name-3.ensures) (c.sides-4.ensures.value ∙ c.name-4.ensures) c.spin.ensures c.shared-kept.ensures.same c.requires.near in
    let start = c.from.view_is ∙ c.faced_type-from.ensures.value ∙ sym (word_type c.args.r.now.kinds c.args.r.now.automaton k sound.valid sound.accepted c.requires.first.known (position c.args.s.now) c.requires.first.there) in
    let inwards = far_inwards c.args.r.now.kinds c.args.r.now.automaton k sound.valid sound.accepted c.requires.first.known u (word c.args.t.now.name) far in
    let there = leads c.args.r.now.kinds c.args.r.now.automaton k sound.valid sound.accepted c.requires.first.known u (word c.args.t.now.name) apart leaves c.from.inside.kind c.from.inside.residue start inwards in
    absurd (was_told c.arrive_between.result c.in_ok-there.there c.in_ok-there.was (c.arrive_between.ensures.too_deep there))
