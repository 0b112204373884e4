use Rattle.std.proofs.Common.{◌≡◌, replicate}
use Rattle.ring_listing.proofs.trail.Trail.start.Given as goal

abbrev pub invariant-loop-side : goal.invariant-loop-side
invariant-loop-side l = l.name ≡ replicate l.side 0
