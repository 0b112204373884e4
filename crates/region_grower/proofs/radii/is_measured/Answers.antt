-- Where no radius is over one more than that across a dart, all are exact.
use Rattle.std.proofs.Common.{arith, below_more}
use Rattle.region_grower.proofs.Measured.{near_radii}
use Rattle.region_grower.proofs.radii.is_measured.Goals as goal

pub returns : goal.returns
returns c = λ _. near_radii c.args.joins.now c.requires.table c.args.radii.now c.requires.long c.requires.first (λ k live. let made = c.requires.table.live_made k live in c.loop-cell.invariant k (omega (arith, made, c.made-cell-end.ensures.value, c.loop-cell-test.false)) live) c.requires.near

pub loop-cell-preserved : goal.loop-cell-preserved
loop-cell-preserved c = below_more _ _ c.loop-cell.invariant (c.has_over.ensures c.if-has_over.false)
