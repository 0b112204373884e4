use Rattle.std.proofs.Common.{◌≡◌, ℕ, ◌+◌, ◌*◌, [], length, refl, replicate, slice_index_or, ap, arith, add-one, ◌∙◌}
use Rattle.std.proofs.lemmas.List.{length-replicate, get_or_read}
use Rattle.ring_listing.specs.Populations.{children_sum, tiles_sum}
use Rattle.ring_listing.proofs.Sums.{tiles_step, sum_of_none}
use Rattle.ring_listing.proofs.tally.next_tiles.Goals as goal

pub loop-state-init : goal.loop-state-init
loop-state-init c =
    let n = length c.args.next.now in
    let empty : c.fill.new.self ≡ replicate n 0 = c.fill.ensures.after (λ y e. e) in
    record {
      all = ap (tiles_sum (λ _. 1) 0) empty ∙ sum_of_none (λ _. 1) 0 n;
      few = omega arith;
      room = ap length empty ∙ length-replicate n 0;
      sums = λ f.
          let none = sum_of_none f 0 n in
          omega (arith, ap (tiles_sum f 0) empty, none);
    }

pub loop-state-preserved : goal.loop-state-preserved
loop-state-preserved c = record {
  all = omega (arith, c.in_ok-all.ensures.all);
  few = c.in_ok-all.ensures.few;
  room = omega (arith, c.loop-state.invariant.room, c.add_children.auto.next);
  sums = λ f.
      let k = c.loop-state.state in
      let t = slice_index_or c.args.tiles.now k 0 in
      let read = get_or_read c.args.families.now k c.index-families-state.result (omega arith) c.index-families-state.is [] in
      let g : ℕ → ℕ = λ s. children_sum f (slice_index_or c.args.families.now s []) in
      let sum : tiles_sum f 0 c.add_children.new.next ≡ tiles_sum f 0 c.loop-state.next + t * g k
      = c.in_ok-all.ensures.sums f ∙ ap (λ cs. tiles_sum f 0 c.loop-state.next + t * children_sum f cs) (c.children.ensures ∙ read) in
      rw add-one (tiles_step g c.args.tiles.now k t (tiles_sum f 0 c.loop-state.next) (tiles_sum f 0 c.add_children.new.next) (tiles_sum g 0 c.args.tiles.now) sum refl (omega (arith, c.requires.each)) (c.loop-state.invariant.sums f));
}
