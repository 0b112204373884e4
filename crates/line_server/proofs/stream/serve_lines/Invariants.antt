-- What was read is answered up to the last line feed, and the count of the bytes is within the limit.
use Rattle.std.proofs.Common.{◌≡◌, ◌≤◌, ◌+◌, ◌-◌, [], length}
use Rattle.line_server.specs.Lines.{most_of_stream}
use Rattle.line_server.specs.Readers.{IsReader}
use Rattle.line_server.proofs.Serving.{Serving}
use Rattle.line_server.proofs.stream.serve_lines.Given as goal

abbrev pub invariant-loop-count : goal.invariant-loop-count
invariant-loop-count g l = record {
  shape : IsReader l.reader;
  written : l.waiting.items ≡ [];
  serving : Serving g.I.Source.tells g.O.Sink.tells l.initial.session
      (g.I.Source.left l.initial.input) (g.O.Sink.taken l.initial.out) l.session l.reader
      (g.I.Source.left l.input) (g.O.Sink.taken l.out) l.total;
  few : l.total ≤ most_of_stream;
  texts : length l.session.texts + l.reader.kept ≤ length l.initial.session.texts + l.total;
  reads_later : g.I.Source.faults l.initial.input ≤ g.I.Source.faults l.input;
  writes_later : g.O.Sink.faults l.initial.out ≤ g.O.Sink.faults l.out;
}

abbrev pub decreases-loop-count : goal.decreases-loop-count
decreases-loop-count g l = most_of_stream - l.total
