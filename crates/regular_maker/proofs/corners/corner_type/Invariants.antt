use Rattle.std.proofs.Common.{◌≡◌}
use Rattle.regular_maker.specs.Corners.{listed, depth_at}
use Rattle.regular_maker.proofs.corners.corner_type.Given as goal

abbrev pub invariant-loop-t : goal.invariant-loop-t
invariant-loop-t l = l.offsets.items ≡ listed (depth_at l.symbol.q l.corner) l.t
