-- A pass that changed nothing found all corners closed, and whole ones stay whole.
use Rattle.std.proofs.Common.{sym, subst, inl, inr}
use Rattle.std.proofs.lemmas.Bool.{cases_lt}
use Rattle.region_grower.specs.Corners.{AllClosed}
use Rattle.region_grower.proofs.Left.{closed_on_same, closed_on_both}
use Rattle.region_grower.proofs.Whole.{whole_closed, whole_grown}
use Rattle.region_grower.proofs.corners.close_corners.Goals as goal

pub loop-init : goal.loop-init
loop-init c = record { table = c.requires.table; moved = closed_on_same c.args.joins.now c.requires.table }

pub loop-preserved : goal.loop-preserved
loop-preserved c = record {
  table = c.close_each.ensures.table;
  moved = closed_on_both c.args.joins.now c.loop.joins c.close_each.new.joins c.requires.table c.loop.invariant.moved c.close_each.ensures.moved;
}

pub returns-clause-moved : goal.returns-clause-moved
returns-clause-moved c = closed_on_both c.args.joins.now c.loop.joins c.close_each.new.joins c.requires.table c.loop.invariant.moved c.close_each.ensures.moved

pub returns-clause-closed : goal.returns-clause-closed
returns-clause-closed c =
    let t = c.loop.joins in
    let whole = whole_grown c.args.joins.now t c.requires.table c.loop.invariant.table c.loop.invariant.moved.grown c.args.from c.requires.whole in
    let closed : AllClosed t = λ d is_dart. elim (cases_lt d.0 c.args.from) [
      | inl low ↦ whole_closed t c.loop.invariant.table d is_dart (whole.whole d is_dart low)
      | inr past ↦ c.close_each.ensures.done c.loop-test.false d.0 d.1 past is_dart
    ] in
    subst AllClosed (sym (c.close_each.ensures.unchanged c.loop-test.false)) closed
