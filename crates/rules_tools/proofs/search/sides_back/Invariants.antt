-- The path of the entry that is come to, and behind it the sides so far in reverse, are the path of the entry.
use Rattle.std.proofs.Common.{◌≡◌, ◌++◌, ◌<◌, length, reverse}
use Rattle.cell_names.specs.Name.{IsName}
use Rattle.rules_tools.specs.Pairs.{path_at}
use Rattle.rules_tools.specs.Searches.{IsSearching}
use Rattle.rules_tools.proofs.search.sides_back.Given as goal

abbrev pub invariant-loop-at : goal.invariant-loop-at
invariant-loop-at l = record {
  within : l.at < length l.x.queue.items;
  path : (h : IsSearching l.tess l.a l.x l.entry 0) → path_at h.paths l.at ++ reverse l.sides.items ≡ path_at h.paths l.entry;
  below : IsName l.sides.items;
}

abbrev pub decreases-loop-at : goal.decreases-loop-at
decreases-loop-at l = l.at
