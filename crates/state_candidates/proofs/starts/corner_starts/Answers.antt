-- The start of one cell more.
use Rattle.std.proofs.Common.{◌≡◌, ℕ, ◌+◌, ◌<◌, ◌∷◌, [], List, length, slice_index, sym, ap, ◌∙◌, subst, arith}
use Rattle.std.proofs.Math.ListN.{length-append}
use Rattle.coincidence.specs.Tables.{JoinTable}
use Rattle.look_classes.specs.Classes.{sides_below}
use Rattle.state_candidates.proofs.Sides.{no_sides, sides_more, starts_more}
use Rattle.state_candidates.proofs.starts.corner_starts.Goals as goal

pub loop-cell-init : goal.loop-cell-init
loop-cell-init c = record {
  long = ap length c.in_ok-starts.ensures.items;
  each = λ k below. absurd (omega (arith, below));
  start = sym (no_sides c.args.region.now);
  few = omega arith;
}

pub loop-cell-preserved : goal.loop-cell-preserved
loop-cell-preserved c =
    let r = c.args.region.now in
    let h = c.loop-cell.invariant in
    record {
      long = omega (arith, ap length c.in_ok-push.ensures.items, length-append c.loop-cell.starts.items (c.loop-cell.before ∷ []), h.long);
      each = subst (λ (xs : List ℕ). (k : ℕ) → k < c.loop-cell.cell + 1 → slice_index xs k ≡ length (sides_below k r)) (sym c.in_ok-push.ensures.items) (starts_more (λ k. length (sides_below k r)) c.loop-cell.starts.items c.loop-cell.cell c.loop-cell.before h.long h.start h.each);
      start = omega (arith, h.start, sides_more r c.loop-cell.cell, c.sides.ensures.value);
      few = omega (arith, h.few, c.sides.ensures.at_most);
    }

pub returns : goal.returns
returns c =
    let r = c.args.region.now in
    let all : c.loop-cell.cell ≡ length r.table.origins = omega (arith, c.loop-cell-test.false, c.loop-cell.auto.cell-end, c.made-cell-end.ensures.value, ap (λ (t : JoinTable). length t.origins) c.joins-joins.ensures.value) in
    record {
      long = c.loop-cell.invariant.long ∙ all;
      each = subst (λ n. (k : ℕ) → k < n → slice_index c.loop-cell.starts.items k ≡ length (sides_below k r)) all c.loop-cell.invariant.each;
    }
