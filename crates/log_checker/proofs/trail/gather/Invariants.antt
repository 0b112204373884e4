-- The letters stay in their order, and the piece only grows; each step takes a piece away.
use Rattle.std.proofs.Common.{◌≡◌, ◌≤◌, length}
use Rattle.log_checker.specs.Trails.{joined, piece_at, KeepsFront}
use Rattle.log_checker.proofs.trail.gather.Given as goal

abbrev pub invariant-loop-pieces : goal.invariant-loop-pieces
invariant-loop-pieces l = record {
  same : joined l.pieces.items ≡ joined l.fn.pieces.items;
  front : KeepsFront l.fn.pieces.items l.pieces.items l.index;
  within : l.offset ≤ length (piece_at l.pieces.items l.index);
}

abbrev pub decreases-loop-pieces : goal.decreases-loop-pieces
decreases-loop-pieces l = length l.pieces.items
