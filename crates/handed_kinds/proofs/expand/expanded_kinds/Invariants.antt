-- The kinds so far, followed by those that are left, are the expansion.
use Rattle.std.proofs.Common.{◌≡◌, ◌++◌, drop}
use Rattle.handed_kinds.specs.Expansion.{expanded}
use Rattle.handed_kinds.proofs.expand.expanded_kinds.Given as goal

abbrev pub invariant-loop-n : goal.invariant-loop-n
invariant-loop-n l = l.all.items ++ drop l.n (expanded l.kinds) ≡ expanded l.kinds
