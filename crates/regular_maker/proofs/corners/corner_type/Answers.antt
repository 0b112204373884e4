-- There are no more than two corner types.
use Rattle.std.proofs.Common.{arith}
use Rattle.regular_maker.proofs.Shapes.{shape_of}
use Rattle.regular_maker.proofs.corners.corner_type.Goals as goal

pub depth_at-requires-clause-corner : goal.depth_at-requires-clause-corner
depth_at-requires-clause-corner c =
    let shape = shape_of c.args.symbol.p c.args.symbol.q c.requires.symbol in
    omega (arith, c.requires.corner, shape.parity)
