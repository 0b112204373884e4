use Rattle.std.proofs.Common.{◌≡◌, [], ◌∷◌, ◌++◌, length, drop, slice_index_or, true, ap, ap₂, ◌∙◌, arith}
use Rattle.std.specs.Vec.{with_items}
use Rattle.ring_listing.specs.declared.tally.Tally.{Tally}
use Rattle.ring_listing.specs.Populations.{children_sum, tiles_sum}
use Rattle.ring_listing.proofs.Families.{all_known}
use Rattle.ring_listing.proofs.Tallying.{written, tally_more, tally_full}
use Rattle.ring_listing.proofs.tally.Tally.count_next.Goals as goal

pub next_tiles-requires-clause-known : goal.next_tiles-requires-clause-known
next_tiles-requires-clause-known c =
    let t = c.args.self.now in
    let going = c.requires.tally.going c.requires.started in
    all_known t.rules.now.kinds t.rules.now.automaton t.families.items c.deref.result.now (length c.deref_mut.result.now) c.deref.ensures.value
    (ap length c.deref_mut.ensures.value ∙ going.room) going.families

pub returns-in-Some-clause-tally : goal.returns-in-Some-clause-tally
returns-in-Some-clause-tally c =
    let t = c.args.self.now in
    let u : Tally = record { rules = t.rules; kind = t.kind; sizes = c.push_reserved.new.self; is_full = t.is_full; families = t.families; tiles = c.swap.new.x; room = c.swap.new.y } in
    let e = c.in-Some.ensures in
    let tiles : c.swap.new.x.items ≡ c.next_tiles.new.next
    = ap (λ v. v.items) c.swap.ensures.x_after ∙ written t.room.len c.next_tiles.new.next (drop (length c.next_tiles.new.next) t.room.items) (omega (arith, c.next_tiles.auto.next, c.deref_mut.ensures.len)) in
    let room : c.swap.new.y.items ≡ t.tiles.items = ap (λ v. v.items) c.swap.ensures.y_after in
    let sizes : c.push_reserved.new.self.items ≡ t.sizes.items ++ c.in-Some.size ∷ [] = c.push_reserved.ensures.items ∙ ap (λ xs. xs ++ c.in-Some.size ∷ []) c.reserve.ensures.items in
    let long : length c.swap.new.x.items ≡ length t.room.items = omega (arith, ap length tiles, c.next_tiles.auto.next, ap length c.deref_mut.ensures.value) in
    tally_more t u c.requires.tally c.requires.started c.in-Some.size e.few c.requires.not_full sizes (ap length room) long
    (λ f. ap (tiles_sum f 0) tiles ∙ e.sums f ∙ ap₂ (λ fs ts. tiles_sum (λ s. children_sum f (slice_index_or fs s [])) 0 ts) c.deref.ensures.value c.deref-2.ensures.value)
    (ap (tiles_sum (λ _. 1) 0) tiles ∙ e.all)

pub returns-in-None-clause-tally : goal.returns-in-None-clause-tally
returns-in-None-clause-tally c =
    let t = c.args.self.now in
    let full = c.in-None.ensures.too_many in
    let same : tiles_sum (λ s. children_sum (λ _. 1) (slice_index_or c.deref.result.now s [])) 0 c.deref-2.result.now ≡ tiles_sum (λ s. children_sum (λ _. 1) (slice_index_or t.families.items s [])) 0 t.tiles.items
    = ap₂ (λ fs ts. tiles_sum (λ s. children_sum (λ _. 1) (slice_index_or fs s [])) 0 ts) c.deref.ensures.value c.deref-2.ensures.value in
    let u : Tally = record { rules = t.rules; kind = t.kind; sizes = c.reserve.new.self; is_full = true; families = t.families; tiles = t.tiles; room = with_items t.room c.next_tiles.new.next } in
    tally_full t u c.requires.tally c.requires.started c.reserve.ensures.items
    (omega (arith, c.next_tiles.auto.next, ap length c.deref_mut.ensures.value)) (omega (arith, full, same))
