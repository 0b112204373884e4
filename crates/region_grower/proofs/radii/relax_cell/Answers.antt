-- One side after the other.
use Rattle.std.proofs.Common.{ℕ, ◌+◌, ◌<◌, sym, subst, arith, below_more}
use Rattle.region_grower.specs.Regions.{IsRelaxedAt}
use Rattle.region_grower.specs.Passes.{HasLowered}
use Rattle.region_grower.proofs.Passes.{lowered_on, lowered_as}
use Rattle.region_grower.proofs.radii.relax_cell.Goals as goal

pub loop-side-preserved : goal.loop-side-preserved
loop-side-preserved c =
    let t = c.args.joins.now in
    let first = c.args.radii.now in
    let last = c.relax_dart-now.new.radii in
    let on = lowered_on {F = λ rs. (i : ℕ) → i < c.loop-side.side + 1 → IsRelaxedAt t rs (c.args.cell, i)} t first c.loop-side.radii last c.loop-side.changed c.relax_dart-now.result (λ before here. below_more _ _ before here) c.loop-side.invariant c.relax_dart-now.ensures in
    subst (λ b. HasLowered t first last b (λ rs. (i : ℕ) → i < c.loop-side.side + 1 → IsRelaxedAt t rs (c.args.cell, i))) (sym c.either-changed.ensures) on

pub returns : goal.returns
returns c = lowered_as c.args.joins.now c.args.radii.now c.loop-side.radii c.loop-side.changed (λ all i below. all i (omega (arith, below, c.turn-side-end.ensures, c.loop-side-test.false))) c.loop-side.invariant
