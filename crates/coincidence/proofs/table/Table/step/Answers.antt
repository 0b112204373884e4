-- The dart that stands in a slot, as it is now named, and the other dart are made one.
use Rattle.std.proofs.Common.{◌≡◌, ◌/◌, ◌%◌, ap, ◌∙◌, arith}
use Rattle.std.proofs.lemmas.List.{get_or_read}
use Rattle.coincidence.specs.Darts.{nowhere, slot_at, unpack, pack}
use Rattle.coincidence.specs.Cells.{name}
use Rattle.coincidence.proofs.Settled.{settled_made, name_is_settled, named_by, named_back}
use Rattle.coincidence.proofs.Links.{across_back}
use Rattle.coincidence.proofs.Merges.{across_name}
use Rattle.coincidence.proofs.table.Table.step.Goals as goal

pub name-x-requires-clause-cell : goal.name-x-requires-clause-cell
name-x-requires-clause-cell c =
    let t = c.args.self.now in
    let is : c.index-over_a.result.now ≡ slot_at t.slots.items c.args.a = get_or_read t.slots.items c.args.a c.index-over_a.result.now (omega (arith, settled_made t.cells.items c.args.a c.requires.first, c.requires.shaped.slots)) c.index-over_a.ensures nowhere in
    let made = c.requires.shaped.made c.args.a (λ none. c.if-over_a.true (is ∙ none)) in
    omega (arith, is, made)

pub merge-requires-clause-first : goal.merge-requires-clause-first
merge-requires-clause-first c = name_is_settled c.args.self.now (c.index-over_a.result.now / 64) (c.index-over_a.result.now % 64) c.name-x.result c.requires.shaped c.name-x.ensures

pub name-x-requires-then-over_b-clause-cell : goal.name-x-requires-then-over_b-clause-cell
name-x-requires-then-over_b-clause-cell c =
    let t = c.args.self.now in
    let is : c.index-over_b.result.now ≡ slot_at t.slots.items c.args.b = get_or_read t.slots.items c.args.b c.index-over_b.result.now (omega (arith, settled_made t.cells.items c.args.b c.requires.second, c.requires.shaped.slots)) c.index-over_b.ensures nowhere in
    let made = c.requires.shaped.made c.args.b (λ none. c.if-over_b.true (is ∙ none)) in
    omega (arith, is, made)

pub merge-requires-then-over_b-clause-first : goal.merge-requires-then-over_b-clause-first
merge-requires-then-over_b-clause-first c = name_is_settled c.args.self.now (c.index-over_b.result.now / 64) (c.index-over_b.result.now % 64) c.name-x-then-over_b.result c.requires.shaped c.name-x-then-over_b.ensures

pub returns-then-over_a-clause-named : goal.returns-then-over_a-clause-named
returns-then-over_a-clause-named c =
    let t = c.args.self.now in
    let is : c.index-over_a.result.now ≡ slot_at t.slots.items c.args.a = get_or_read t.slots.items c.args.a c.index-over_a.result.now (omega (arith, settled_made t.cells.items c.args.a c.requires.first, c.requires.shaped.slots)) c.index-over_a.ensures nowhere in
    named_by t c.merge.new.self c.args.a c.name-x.result c.args.b c.requires.shaped c.merge.ensures.moved.followed c.merge.ensures.slots (λ none. c.if-over_a.true (is ∙ none)) (c.name-x.ensures ∙ ap (λ n. pack (name t.cells.items (unpack n))) is) c.merge.ensures.together

pub returns-then-over_a-clause-sound : goal.returns-then-over_a-clause-sound
returns-then-over_a-clause-sound c = λ atlas sound across.
    let t = c.args.self.now in
    let is : c.index-over_a.result.now ≡ slot_at t.slots.items c.args.a = get_or_read t.slots.items c.args.a c.index-over_a.result.now (omega (arith, settled_made t.cells.items c.args.a c.requires.first, c.requires.shaped.slots)) c.index-over_a.ensures nowhere in
    c.merge.ensures.sound atlas sound (across_name atlas t c.args.a c.name-x.result c.args.b c.requires.shaped sound (λ none. c.if-over_a.true (is ∙ none)) (c.name-x.ensures ∙ ap (λ n. pack (name t.cells.items (unpack n))) is) across)

pub returns-then-over_b-clause-named : goal.returns-then-over_b-clause-named
returns-then-over_b-clause-named c =
    let t = c.args.self.now in
    let is : c.index-over_b.result.now ≡ slot_at t.slots.items c.args.b = get_or_read t.slots.items c.args.b c.index-over_b.result.now (omega (arith, settled_made t.cells.items c.args.b c.requires.second, c.requires.shaped.slots)) c.index-over_b.ensures nowhere in
    let m = c.merge-then-over_b in
    named_back m.new.self _ _ m.ensures.moved.shaped (named_by t m.new.self c.args.b c.name-x-then-over_b.result c.args.a c.requires.shaped m.ensures.moved.followed m.ensures.slots (λ none. c.if-over_b.true (is ∙ none)) (c.name-x-then-over_b.ensures ∙ ap (λ n. pack (name t.cells.items (unpack n))) is) m.ensures.together)

pub returns-then-over_b-clause-sound : goal.returns-then-over_b-clause-sound
returns-then-over_b-clause-sound c = λ atlas sound across.
    let t = c.args.self.now in
    let is : c.index-over_b.result.now ≡ slot_at t.slots.items c.args.b = get_or_read t.slots.items c.args.b c.index-over_b.result.now (omega (arith, settled_made t.cells.items c.args.b c.requires.second, c.requires.shaped.slots)) c.index-over_b.ensures nowhere in
    c.merge-then-over_b.ensures.sound atlas sound (across_name atlas t c.args.b c.name-x-then-over_b.result c.args.a c.requires.shaped sound (λ none. c.if-over_b.true (is ∙ none)) (c.name-x-then-over_b.ensures ∙ ap (λ n. pack (name t.cells.items (unpack n))) is) (across_back atlas (unpack c.args.a) (unpack c.args.b) across))
