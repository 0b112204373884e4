use Rattle.std.proofs.Common.{◌≡◌}
use Rattle.regular_maker.specs.Corners.{listed, corner_type}
use Rattle.regular_maker.proofs.corners.corner_types.Given as goal

abbrev pub invariant-loop-corner : goal.invariant-loop-corner
invariant-loop-corner l = l.corners.items ≡ listed (corner_type l.symbol.q) l.corner
