-- What the check of corners asks is what `has_corner` tells.
use Rattle.handed_kinds.proofs.checks.passes.Goals as goal

pub returns-in-Corner : goal.returns-in-Corner
returns-in-Corner c = rw c.in-Corner.is c.has_corner.ensures
