-- One cell after the other.
use Rattle.std.proofs.Common.{ℕ, ◌+◌, ◌<◌, sym, subst, arith, below_more}
use Rattle.coincidence.specs.Cells.{IsLive}
use Rattle.region_grower.specs.Regions.{IsRelaxed}
use Rattle.region_grower.specs.Passes.{HasLowered}
use Rattle.region_grower.proofs.Passes.{lowered_on, lowered_as}
use Rattle.region_grower.proofs.radii.relax_each.Goals as goal

pub loop-cell-preserved : goal.loop-cell-preserved
loop-cell-preserved c =
    let t = c.args.joins.now in
    let first = c.args.radii.now in
    let last = c.relax_live-now.new.radii in
    let on = lowered_on {F = λ rs. (k : ℕ) → k < c.loop-cell.cell + 1 → IsLive t.cells k → IsRelaxed t rs k} t first c.loop-cell.radii last c.loop-cell.changed c.relax_live-now.result (λ before here. below_more _ _ before here) c.loop-cell.invariant c.relax_live-now.ensures in
    subst (λ b. HasLowered t first last b (λ rs. (k : ℕ) → k < c.loop-cell.cell + 1 → IsLive t.cells k → IsRelaxed t rs k)) (sym c.either-changed.ensures) on

pub returns : goal.returns
returns c = lowered_as c.args.joins.now c.args.radii.now c.loop-cell.radii c.loop-cell.changed (λ all k live. let made = c.requires.table.live_made k live in all k (omega (arith, made, c.made-cell-end.ensures.value, c.loop-cell-test.false)) live) c.loop-cell.invariant
