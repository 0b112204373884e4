-- The copies so far, with what is left, are the whole list.
use Rattle.std.proofs.Common.{◌≡◌, ◌++◌, drop}
use Rattle.rules_tools.proofs.reducing.same_corners.Given as goal

abbrev pub invariant-loop-corner : goal.invariant-loop-corner
invariant-loop-corner l = l.copies.items ++ drop l.corner-index l.corners ≡ l.corners
