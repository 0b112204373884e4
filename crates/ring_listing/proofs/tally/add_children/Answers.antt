use Rattle.std.proofs.Common.{arith, add-one, ◌∙◌}
use Rattle.ring_listing.specs.Populations.{tiles_sum}
use Rattle.ring_listing.proofs.Sums.{children_step}
use Rattle.ring_listing.proofs.tally.add_children.Goals as goal

pub loop-child-preserved : goal.loop-child-preserved
loop-child-preserved c = record {
  all = omega (arith, c.add_tiles.ensures (λ _. 1), c.in_ok-sum.ensures, c.loop-child.invariant.all);
  few = omega (arith, c.in_ok-sum.ensures);
  room = omega (arith, c.loop-child.invariant.room, c.add_tiles.auto.next);
  sums = λ f.
      let k = c.loop-child.child-index in
      rw add-one (children_step f c.args.children.now k _ c.args.tiles c.in_ok-more.more (tiles_sum f 0 c.loop-child.next) (tiles_sum f 0 c.add_tiles.new.next)
      (c.add_tiles.ensures f) (c.in_ok-more.ensures.1) (omega arith) ∙ c.loop-child.invariant.sums f);
}
