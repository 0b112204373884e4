-- One cell after the other.
use Rattle.std.proofs.Common.{◌≡◌, suc, ◌+◌, length, slice_index_or, sym, ap, ◌∙◌, subst, arith}
use Rattle.std.proofs.lemmas.List.{length_push}
use Rattle.look_classes.specs.Codes.{start_of}
use Rattle.look_classes.proofs.Listed.{push_each, start_none, start_next}
use Rattle.look_classes.proofs.places.starts.Goals as goal

pub loop-cell-init : goal.loop-cell-init
loop-cell-init c = record {
  long = ap length c.in_ok-starts.ensures.items;
  start = sym (start_none c.args.region.now);
  few = omega arith;
  begins = λ k lt. absurd (omega (arith, lt));
}

pub overflow_add-start : goal.overflow_add-start
overflow_add-start c =
    let few = c.joins-joins.ensures.table.few in
    omega (arith, c.loop-cell.invariant.few, c.made_sides.ensures.at_most, c.from-start.ensures, c.loop-cell-test.true, c.made-made.ensures, few)

pub loop-cell-preserved : goal.loop-cell-preserved
loop-cell-preserved c =
    let r = c.args.region.now in
    let h = c.loop-cell.invariant in
    let items = c.in_ok-push.ensures.items in
    let one : c.loop-cell.cell + 1 ≡ suc c.loop-cell.cell = omega arith in
    record {
      long = ap length items ∙ (length_push c.loop-cell.starts.items _ ∙ ap (λ n. n + 1) h.long);
      start = omega (arith, h.start, c.from-start.ensures, c.made_sides.ensures.value, start_next r c.loop-cell.cell, ap (start_of r) one);
      few = omega (arith, h.few, c.from-start.ensures, c.made_sides.ensures.at_most);
      begins = λ n lt. subst (λ xs. slice_index_or xs n 0 ≡ start_of r n) (sym items) (push_each c.loop-cell.starts.items c.loop-cell.start 0 c.loop-cell.cell (λ k x. x ≡ start_of r k) h.long h.begins h.start n lt);
    }
