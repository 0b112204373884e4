-- The children at the sides before are marked.
use Rattle.std.proofs.Common.{◌≡◌, ℕ, ◌<◌, true, slice_index_or}
use Rattle.tree_model.specs.declared.Rule.TheVariants.{Parent, Child}
use Rattle.tree_model.specs.Automata.{state_at}
use Rattle.rules_tools.specs.Reached.{IsSearch, Grows, mark_at}
use Rattle.rules_tools.proofs.reached.mark_children.Given as goal

abbrev pub invariant-loop-i : goal.invariant-loop-i
invariant-loop-i l = record {
  search : IsSearch l.tess l.a l.marks.items l.queue.items;
  grows : Grows l.fn.marks.items l.fn.queue.items l.marks.items l.queue.items;
  marked : (i c : ℕ) → i < l.i → slice_index_or (state_at l.a l.s).rules i Parent ≡ Child c → mark_at l.marks.items c ≡ true;
}
