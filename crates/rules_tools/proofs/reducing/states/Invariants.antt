-- The states of the classes that were met.
use Rattle.rules_tools.specs.Reducing.{AreFirstStates}
use Rattle.rules_tools.proofs.reducing.states.Given as goal

abbrev pub invariant-loop-s : goal.invariant-loop-s
invariant-loop-s l = AreFirstStates l.a l.classes l.s l.states.items
