-- The names in front of those that are left stand behind what waited.
use Rattle.std.proofs.Common.{◌≡◌, ℕ, List, ◌++◌, length}
use Rattle.line_server.specs.Answering.{name_lines}
use Rattle.line_server.proofs.whole.append_names.Given as goal

abbrev pub invariant-loop-name : goal.invariant-loop-name
invariant-loop-name l = record {
  said :
      (front : List ℕ)
      × (name_lines l.initial.ring.rest ≡ front ++ name_lines l.ring.rest)
      × (l.waiting.items ≡ l.initial.waiting.items ++ front);
}

abbrev pub decreases-loop-name : goal.decreases-loop-name
decreases-loop-name l = length l.ring.rest
