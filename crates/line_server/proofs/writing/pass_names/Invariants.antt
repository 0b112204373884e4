-- The names in front of those that are left were said.
use Rattle.std.proofs.Common.{◌≡◌, ◌≤◌, ℕ, List, ◌++◌, length}
use Rattle.line_server.specs.Answering.{name_lines}
use Rattle.line_server.specs.Outboxes.{HasSaid}
use Rattle.line_server.proofs.writing.pass_names.Given as goal

abbrev pub invariant-loop-name : goal.invariant-loop-name
invariant-loop-name g l = record {
  said :
      (front : List ℕ)
      × (name_lines l.initial.ring.rest ≡ front ++ name_lines l.ring.rest)
      × HasSaid g.O.Sink.tells (g.O.Sink.taken l.initial.out) l.initial.waiting.items front
      (g.O.Sink.taken l.out) l.waiting.items;
  later : g.O.Sink.faults l.initial.out ≤ g.O.Sink.faults l.out;
}

abbrev pub decreases-loop-name : goal.decreases-loop-name
decreases-loop-name g l = length l.ring.rest
