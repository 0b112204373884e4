-- One cell after the other.
use Rattle.std.proofs.Common.{◌≤◌, slice_index, arith}
use Rattle.region_grower.specs.Ways.{IsDart, IsJoined}
use Rattle.region_grower.proofs.Passes.{cells_more}
use Rattle.region_grower.proofs.Whole.{whole_joined}
use Rattle.region_grower.proofs.growth.open_dart.Goals as goal

pub loop-cell-init : goal.loop-cell-init
loop-cell-init c = λ k i low is_dart _. whole_joined c.args.joins.now c.requires.table (k, i) is_dart (c.requires.whole.whole (k, i) is_dart low)

pub loop-cell-preserved : goal.loop-cell-preserved
loop-cell-preserved c = cells_more (λ k i. IsDart c.args.joins.now (k, i) → slice_index c.args.radii.now k ≤ c.args.within → IsJoined c.args.joins.now (k, i)) c.loop-cell.cell c.loop-cell.invariant c.in_default.ensures.none

pub returns-clause-none : goal.returns-clause-none
returns-clause-none c = λ d is_dart near. let made = c.requires.table.live_made d.0 is_dart.live in c.loop-cell.invariant d.0 d.1 (omega (arith, made, c.made-cell-end.ensures.value, c.loop-cell-test.false)) is_dart near
