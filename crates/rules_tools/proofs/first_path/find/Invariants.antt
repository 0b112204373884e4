-- The entries before the next one are gone through.
use Rattle.std.proofs.Common.{◌≡◌, ◌-◌, ◌≤◌, suc, length}
use Rattle.rules_tools.specs.Searches.{IsSearching}
use Rattle.rules_tools.proofs.first_path.find.Given as goal

abbrev pub invariant-loop-next : goal.invariant-loop-next
invariant-loop-next l = record {
  searching : IsSearching l.tess l.automaton l.search l.next 0;
  first : l.search.first ≡ l.a;
  second : l.search.second ≡ l.b;
  within : l.next ≤ length l.search.queue.items;
}

abbrev pub decreases-loop-next : goal.decreases-loop-next
decreases-loop-next l = suc (length l.automaton.states) - l.next
