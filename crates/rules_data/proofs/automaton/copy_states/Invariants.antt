-- The copies made so far, with what is left, are the whole list.
use Rattle.std.proofs.Common.{◌≡◌, ◌++◌, drop}
use Rattle.rules_data.proofs.automaton.copy_states.Given as goal

abbrev pub invariant-loop-state : goal.invariant-loop-state
invariant-loop-state l = l.copies.items ++ drop l.state-index l.states ≡ l.states
