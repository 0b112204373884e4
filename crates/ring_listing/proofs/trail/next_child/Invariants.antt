use Rattle.ring_listing.specs.Trails.{HasNoChild}
use Rattle.ring_listing.proofs.trail.next_child.Given as goal

abbrev pub invariant-loop-i : goal.invariant-loop-i
invariant-loop-i l = HasNoChild l.fn.r.automaton l.state l.fn.side l.i
