-- One side after the other.
use Rattle.std.proofs.Common.{ℕ, ◌+◌, ◌<◌, sym, subst, arith, below_more}
use Rattle.region_grower.specs.Ways.{IsDart}
use Rattle.region_grower.specs.Corners.{IsClosed}
use Rattle.region_grower.specs.Passes.{HasPassed}
use Rattle.region_grower.proofs.Passes.{passed_none, passed_on, passed_as}
use Rattle.region_grower.proofs.corners.close_cell.Goals as goal

pub loop-side-init : goal.loop-side-init
loop-side-init c = passed_none c.args.joins.now c.requires (λ i low. absurd (omega (arith, low)))

pub loop-side-preserved : goal.loop-side-preserved
loop-side-preserved c =
    let first = c.args.joins.now in
    let last = c.close_side-now.new.joins in
    let on = passed_on {F = λ t. (i : ℕ) → i < c.loop-side.side + 1 → IsDart t (c.args.cell, i) → IsClosed t (c.args.cell, i)} first c.loop-side.joins last c.loop-side.changed c.close_side-now.result c.requires (λ before here. below_more _ _ before here) c.loop-side.invariant c.close_side-now.ensures in
    subst (λ b. HasPassed first last b (λ t. (i : ℕ) → i < c.loop-side.side + 1 → IsDart t (c.args.cell, i) → IsClosed t (c.args.cell, i))) (sym c.either-changed.ensures) on

pub returns : goal.returns
returns c = passed_as c.args.joins.now c.loop-side.joins c.loop-side.changed (λ all i is_dart. let low = is_dart.below in all i (omega (arith, low, c.turn_of-side-end.ensures, c.loop-side-test.false)) is_dart) c.loop-side.invariant
