-- What was sent so far and the rest make the piece, and no count has fallen.
use Rattle.std.proofs.Common.{◌≤◌, length, IsTrue}
use Rattle.way_io.specs.Pieces.{IsSent}
use Rattle.way_io.proofs.sink.write_piece.Given as goal

abbrev pub invariant-loop-rest : goal.invariant-loop-rest
invariant-loop-rest g l = record {
  sent : IsTrue g.S.Sink.tells
      → IsSent (g.S.Sink.taken l.initial.out) (g.S.Sink.taken l.out) l.bytes l.rest;
  later : g.S.Sink.faults l.initial.out ≤ g.S.Sink.faults l.out;
}

abbrev pub decreases-loop-rest : goal.decreases-loop-rest
decreases-loop-rest g l = length l.rest
