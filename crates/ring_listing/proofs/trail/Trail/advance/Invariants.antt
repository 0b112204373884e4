use Rattle.std.proofs.Common.{◌≡◌, length}
use Rattle.ring_listing.specs.Trails.{IsTrail, names_left, moves_left}
use Rattle.ring_listing.proofs.trail.Trail.advance.Given as goal

abbrev pub invariant-loop-self : goal.invariant-loop-self
invariant-loop-self l = record {
  trail : IsTrail l.r l.kind l.self;
  sides : length l.self.name ≡ length l.fn.self.name;
  same : names_left l.r l.kind l.fn.self ≡ names_left l.r l.kind l.self;
}

abbrev pub decreases-loop-self : goal.decreases-loop-self
decreases-loop-self l = moves_left l.self
