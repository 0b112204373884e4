-- The roots of the readers before this one are read.
use Rattle.state_candidates.specs.Gathered.{HaveRoots}
use Rattle.state_candidates.proofs.assemble.roots_of.Given as goal

abbrev pub invariant-loop-reader : goal.invariant-loop-reader
invariant-loop-reader l = HaveRoots l.readers l.roots.items l.reader-index
