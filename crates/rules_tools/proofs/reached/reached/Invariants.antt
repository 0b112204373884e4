-- The children of the states before the next one of the queue are marked.
use Rattle.std.proofs.Common.{◌≡◌, ◌-◌, ℕ, ◌<◌, ◌≤◌, true, length}
use Rattle.tree_model.specs.Automata.{root_at}
use Rattle.rules_tools.specs.Reached.{IsSearch, ChildrenMarked, mark_at}
use Rattle.rules_tools.proofs.reached.reached.Given as goal

abbrev pub invariant-loop-next : goal.invariant-loop-next
invariant-loop-next l = record {
  search : IsSearch l.tess l.a l.marks.items l.queue.items;
  roots : (k : ℕ) → k < length l.tess → mark_at l.marks.items (root_at l.a k) ≡ true;
  children : ChildrenMarked l.tess l.a l.marks.items l.queue.items l.next;
  within : l.next ≤ length l.queue.items;
}

-- the queue has each state at most once
abbrev pub decreases-loop-next : goal.decreases-loop-next
decreases-loop-next l = length l.a.states - l.next
