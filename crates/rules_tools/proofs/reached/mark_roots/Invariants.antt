-- The roots before are marked.
use Rattle.std.proofs.Common.{◌≡◌, ℕ, ◌<◌, true}
use Rattle.tree_model.specs.Automata.{root_at}
use Rattle.rules_tools.specs.Reached.{IsSearch, mark_at}
use Rattle.rules_tools.proofs.reached.mark_roots.Given as goal

abbrev pub invariant-loop-k : goal.invariant-loop-k
invariant-loop-k l = record {
  search : IsSearch l.tess l.a l.marks.items l.queue.items;
  marked : (k : ℕ) → k < l.k → mark_at l.marks.items (root_at l.a k) ≡ true;
}
