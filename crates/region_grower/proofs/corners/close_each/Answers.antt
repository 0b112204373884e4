-- One cell after the other.
use Rattle.std.proofs.Common.{ℕ, ◌+◌, ◌<◌, ◌≤◌, sym, subst, arith}
use Rattle.region_grower.specs.Ways.{IsDart}
use Rattle.region_grower.specs.Corners.{IsClosed}
use Rattle.region_grower.specs.Passes.{HasPassed}
use Rattle.region_grower.proofs.Passes.{passed_none, passed_on, passed_as, cells_more}
use Rattle.region_grower.proofs.corners.close_each.Goals as goal

pub loop-cell-init : goal.loop-cell-init
loop-cell-init c = passed_none c.args.joins.now c.requires (λ k i low past. absurd (omega (arith, low, past)))

pub loop-cell-preserved : goal.loop-cell-preserved
loop-cell-preserved c =
    let first = c.args.joins.now in
    let last = c.close_cell-now.new.joins in
    let on = passed_on {F = λ t. (k i : ℕ) → k < c.loop-cell.cell + 1 → c.args.from ≤ k → IsDart t (k, i) → IsClosed t (k, i)} first c.loop-cell.joins last c.loop-cell.changed c.close_cell-now.result c.requires (λ before here. cells_more _ _ before (λ i _. here i)) c.loop-cell.invariant c.close_cell-now.ensures in
    subst (λ b. HasPassed first last b (λ t. (k i : ℕ) → k < c.loop-cell.cell + 1 → c.args.from ≤ k → IsDart t (k, i) → IsClosed t (k, i))) (sym c.either-changed.ensures) on

pub returns : goal.returns
returns c = passed_as c.args.joins.now c.loop-cell.joins c.loop-cell.changed (λ all k i past is_dart. let made = c.requires.live_made k is_dart.live in all k i (omega (arith, made, c.made-cell-end.ensures.value, c.loop-cell-test.false)) past is_dart) c.loop-cell.invariant
