-- One side after the other.
use Rattle.std.proofs.Common.{arith, below_more}
use Rattle.region_grower.proofs.radii.has_over.Goals as goal

pub loop-side-preserved : goal.loop-side-preserved
loop-side-preserved c = below_more _ _ c.loop-side.invariant (c.is_over.ensures c.if-is_over.false)

pub returns : goal.returns
returns c = λ _ _ i below. c.loop-side.invariant i (omega (arith, below, c.turn_of-side-end.ensures, c.loop-side-test.false))
