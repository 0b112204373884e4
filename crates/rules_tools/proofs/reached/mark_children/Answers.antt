use Rattle.std.proofs.Common.{◌≡◌, ◌≢◌, ◌⊎◌, inl, inr, ℕ, ◌+◌, ◌<◌, slice_index_or, true, subst, arith}
use Rattle.std.proofs.lemmas.Bool.{cases_eq}
use Rattle.tree_model.specs.declared.Rule.TheVariants.{Parent, Child}
use Rattle.tree_model.specs.Automata.{state_at}
use Rattle.merge_laws.proofs.Numbers.{reachable_state}
use Rattle.rules_tools.specs.Reached.{mark_at}
use Rattle.rules_tools.proofs.Searching.{both_grow}
use Rattle.rules_tools.proofs.reached.mark_children.Goals as goal

pub state-requires : goal.state-requires
state-requires c = reachable_state c.args.tess.now c.args.a.now c.requires.accepted c.args.s c.requires.reachable

pub loop-i-preserved : goal.loop-i-preserved
loop-i-preserved c = record {
  search = c.in_ok-mark_child.ensures.search;
  grows = both_grow c.args.marks.now.items c.args.queue.now.items c.loop-i.marks.items c.loop-i.queue.items c.mark_child.new.marks.items c.mark_child.new.queue.items c.loop-i.invariant.grows c.in_ok-mark_child.ensures.grows;
  marked = λ i d lt e. go i d lt e (cases_eq i c.loop-i.i);
}
  where
    go : (i d : ℕ) → i < c.loop-i.i + 1 → slice_index_or (state_at c.args.a.now c.args.s).rules i Parent ≡ Child d → (i ≡ c.loop-i.i) ⊎ (i ≢ c.loop-i.i) → mark_at c.mark_child.new.marks.items d ≡ true
    go i d lt e (inl q) = c.in_ok-mark_child.ensures.marked d (subst (λ k. slice_index_or (state_at c.args.a.now c.args.s).rules k Parent ≡ Child d) q e)
    go i d lt e (inr other) = c.in_ok-mark_child.ensures.grows.kept d (c.loop-i.invariant.marked i d (omega (arith, lt, other)) e)
