use Rattle.std.proofs.Common.{◌≡◌}
use Rattle.ring_listing.proofs.family.add_child.Given as goal

abbrev pub invariant-loop-at : goal.invariant-loop-at
invariant-loop-at l = l.children.items ≡ l.initial.children.items
