-- One cell after the other.
use Rattle.std.proofs.Common.{◌≡◌, ◌+◌, length, None, slice_index_or, sym, ap, ◌∙◌, subst, arith}
use Rattle.std.proofs.lemmas.List.{length_push}
use Rattle.coincidence.specs.Cells.{IsLive}
use Rattle.look_classes.specs.Tree.{parent_side}
use Rattle.look_classes.proofs.Listed.{push_each}
use Rattle.look_classes.proofs.tree.Tree.of.Goals as goal

pub loop-cell-preserved : goal.loop-cell-preserved
loop-cell-preserved c =
    let r = c.args.region.now in
    let h = c.loop-cell.invariant in
    let items = c.in_ok-push.ensures.items in
    record {
      long = ap length items ∙ (length_push c.loop-cell.parents.items _ ∙ ap (λ n. n + 1) h.long);
      sides = λ n lt. subst (λ xs. IsLive r.table.cells n → slice_index_or xs n None ≡ parent_side r n) (sym items) (push_each c.loop-cell.parents.items c.parent_if_live.result None c.loop-cell.cell (λ k o. IsLive r.table.cells k → o ≡ parent_side r k) h.long h.sides c.parent_if_live.ensures n lt);
    }

pub invariant_of-result : goal.invariant_of-result
invariant_of-result c =
    let h = c.loop-cell.invariant in
    let all : c.loop-cell.cell ≡ length c.args.region.now.table.origins = omega (arith, c.loop-cell-test.false, c.loop-cell.auto.cell-end, c.made-made.ensures) in
    record {
      long = h.long ∙ all;
      sides = λ k live. let made = c.joins-joins.ensures.table.live_made k live in h.sides k (omega (arith, made, all)) live;
    }
