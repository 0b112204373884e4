-- The corners of the readers before this one are read.
use Rattle.state_candidates.specs.Gathered.{HaveCorners}
use Rattle.state_candidates.proofs.assemble.corners_of.Given as goal

abbrev pub invariant-loop-reader : goal.invariant-loop-reader
invariant-loop-reader l = HaveCorners l.readers l.corners.items l.reader-index
