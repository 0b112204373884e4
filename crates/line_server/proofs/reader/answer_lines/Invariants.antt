-- The lines in front of the rest were answered, and their answers were said.
use Rattle.std.proofs.Common.{◌≡◌, ◌≤◌, ℕ, ◌+◌, List, ◌++◌, length}
use Rattle.line_server.specs.Readers.{AreDropped}
use Rattle.line_server.proofs.Going.{Going}
use Rattle.line_server.proofs.reader.answer_lines.Given as goal

abbrev pub invariant-loop-line : goal.invariant-loop-line
invariant-loop-line g l = record {
  going :
      (dropped : List ℕ)
      → AreDropped l.initial.lost dropped
      → Going g.O.Sink.tells l.initial.session dropped l.bytes
      (g.O.Sink.taken l.initial.out) l.session l.lost l.rest
      (g.O.Sink.taken l.out) l.waiting.items;
  front : (front : List ℕ) × (l.bytes ≡ front ++ l.rest);
  few :
      length l.session.texts + length l.rest ≤ length l.initial.session.texts + length l.bytes;
  later : g.O.Sink.faults l.initial.out ≤ g.O.Sink.faults l.out;
}

abbrev pub decreases-loop-line : goal.decreases-loop-line
decreases-loop-line g l = length l.rest
