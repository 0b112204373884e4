-- The pieces and the rest are the whole.
use Rattle.std.proofs.Common.{◌≡◌, ◌++◌, length}
use Rattle.log_checker.specs.Trails.{joined}
use Rattle.log_checker.proofs.trail.pieces_of.Given as goal

abbrev pub invariant-loop-rest : goal.invariant-loop-rest
invariant-loop-rest l = joined l.pieces.items ++ l.rest ≡ l.fn.footprints

abbrev pub decreases-loop-rest : goal.decreases-loop-rest
decreases-loop-rest l = length l.rest
