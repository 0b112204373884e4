-- The states of the cells before this one are read.
use Rattle.tree_model.specs.Automata.{no_state}
use Rattle.state_candidates.specs.Readers.{AreStatesTo, GoesOn}
use Rattle.state_candidates.proofs.rows.push_states.Given as goal

abbrev pub invariant-loop-cell : goal.invariant-loop-cell
invariant-loop-cell l = record {
  read : AreStatesTo l.reader l.states.items l.cell;
  kept : GoesOn no_state l.fn.states.items l.states.items;
}
