-- The side is joined, or it is the answer.
use Rattle.std.proofs.Common.{below_more}
use Rattle.region_grower.proofs.growth.open_side.Goals as goal

pub loop-side-preserved : goal.loop-side-preserved
loop-side-preserved c = below_more _ _ c.loop-side.invariant (c.is_open.ensures.joined c.if-is_open.false)
