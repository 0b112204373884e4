-- The states before are among the parents of their children.
use Rattle.rules_tools.specs.Parents.{IsSpaced, AreTrue, AreAll}
use Rattle.rules_tools.proofs.parents.parents_of.Given as goal

abbrev pub invariant-loop-s : goal.invariant-loop-s
invariant-loop-s l = record {
  spaced : IsSpaced l.parents;
  sound : AreTrue l.a l.parents;
  all : AreAll l.a l.parents l.s;
}
