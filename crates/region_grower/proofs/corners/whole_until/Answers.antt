-- The corners of one cell more are whole.
use Rattle.std.proofs.Common.{arith}
use Rattle.region_grower.proofs.Whole.{whole_more}
use Rattle.region_grower.proofs.corners.whole_until.Goals as goal

pub loop-until-preserved : goal.loop-until-preserved
loop-until-preserved c = whole_more c.args.joins.now c.loop-until.until (omega (arith, c.loop-until-test.true, c.made.ensures.value)) c.loop-until.invariant (c.is_cell_whole.ensures c.if-is_cell_whole.true)
