-- The sides before are gone through.
use Rattle.rules_tools.specs.Searches.{IsSearching, Keeps}
use Rattle.rules_tools.proofs.search.pass_entry.Given as goal

abbrev pub invariant-loop-side : goal.invariant-loop-side
invariant-loop-side l = record {
  searching : IsSearching l.tess l.a l.x l.next l.side;
  kept : Keeps l.fn.x l.x;
}
