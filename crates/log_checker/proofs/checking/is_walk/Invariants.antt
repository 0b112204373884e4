-- The letters of the pieces so far, and then the rest, are the walk.
use Rattle.std.proofs.Common.{◌≡◌, ◌++◌, take}
use Rattle.log_checker.specs.Trails.{walk_of}
use Rattle.log_checker.proofs.checking.is_walk.Given as goal

abbrev pub invariant-loop-piece : goal.invariant-loop-piece
invariant-loop-piece l = l.fn.w ≡ walk_of (take l.piece-index l.pieces) ++ l.rest
