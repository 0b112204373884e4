-- Where no radius fell, all are exact.
use Rattle.std.proofs.Common.{sym, subst, arith}
use Rattle.region_grower.specs.Regions.{AreRadii}
use Rattle.region_grower.proofs.Measured.{are_radii, forgotten_reached}
use Rattle.region_grower.proofs.radii.measure.Goals as goal

pub loop-init : goal.loop-init
loop-init c = record {
  long = omega (arith, c.requires.long, c.forget.auto.radii);
  reached = forgotten_reached c.args.joins.now c.forget.new.radii c.forget.ensures.first c.forget.ensures.others;
  first = c.forget.ensures.first;
}

pub returns : goal.returns
returns c =
    let h = c.loop.invariant in
    let exact = are_radii c.args.joins.now c.requires.table c.loop.radii h.long h.first (c.relax_each.ensures.done c.loop-test.false) h.reached in
    subst (AreRadii c.args.joins.now) (sym (c.relax_each.ensures.unchanged c.loop-test.false)) exact
