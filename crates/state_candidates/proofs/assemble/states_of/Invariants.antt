-- The states of the readers before this one are read.
use Rattle.state_candidates.specs.Gathered.{HaveStates}
use Rattle.state_candidates.proofs.assemble.states_of.Given as goal

abbrev pub invariant-loop-reader : goal.invariant-loop-reader
invariant-loop-reader l = HaveStates l.readers l.states.items l.reader-index
