use Rattle.std.proofs.Common.{◌≡◌, ◌<◌, length, slice_index_or, sym, subst, arith}
use Rattle.tree_model.specs.Automata.{state_at, root_at}
use Rattle.tree_model.specs.declared.Rule.TheVariants.{Parent, Child}
use Rattle.merge_model.specs.Merging.{IsReachable}
use Rattle.merge_laws.proofs.Numbers.{reachable_state}
use Rattle.rules_tools.specs.Reached.{queued_at, ChildrenMarked}
use Rattle.rules_tools.proofs.Searching.{one_more, sides_marked, all_reached, now_queued}
use Rattle.rules_tools.proofs.reached.reached.Goals as goal

pub loop-next-init : goal.loop-next-init
loop-next-init c = record {
  search = c.in_ok-mark_roots.ensures.search;
  roots = c.in_ok-mark_roots.ensures.marked;
  children = λ j i d lt. absurd (omega (arith, lt));
  within = omega arith;
}

pub mark_children-requires-clause-reachable : goal.mark_children-requires-clause-reachable
mark_children-requires-clause-reachable c =
    let lt : c.loop-next.next < length c.loop-next.queue.items = omega (arith, c.loop-next-test.true, c.len-in-loop-next.ensures, c.loop-next.queue.ok.0) in
    subst (IsReachable c.args.tess.now c.args.a.now) (sym (now_queued c.loop-next.queue.items c.loop-next.next c.index-s.result.now lt c.index-s.ensures)) (c.loop-next.invariant.search.known c.loop-next.next lt)

pub loop-next-smaller : goal.loop-next-smaller
loop-next-smaller c =
    let lt : c.loop-next.next < length c.loop-next.queue.items = omega (arith, c.loop-next-test.true, c.len-in-loop-next.ensures, c.loop-next.queue.ok.0) in
    let few = c.loop-next.invariant.search.balance in
    omega (arith, lt, few)

pub loop-next-preserved : goal.loop-next-preserved
loop-next-preserved c = record {
  search = c.in_ok-mark_children.ensures.search;
  roots = λ k known. c.in_ok-mark_children.ensures.grows.kept (root_at c.args.a.now k) (c.loop-next.invariant.roots k known);
  children =
      one_more c.args.tess.now c.args.a.now c.requires c.loop-next.marks.items c.mark_children.new.marks.items c.loop-next.queue.items c.mark_children.new.queue.items c.loop-next.next lt c.loop-next.invariant.children c.in_ok-mark_children.ensures.grows
      (λ i d low rule. sides_marked c.args.tess.now c.args.a.now c.requires c.mark_children.new.marks.items (queued_at c.loop-next.queue.items c.loop-next.next) known
      (λ j e less rule'. c.in_ok-mark_children.ensures.marked j e (subst (λ x. j < length (state_at c.args.a.now x).rules) now less) (subst (λ x. slice_index_or (state_at c.args.a.now x).rules j Parent ≡ Child e) now rule')) i d low rule);
  within = omega (arith, lt, c.in_ok-mark_children.ensures.grows.longer);
}
  where
    lt : c.loop-next.next < length c.loop-next.queue.items
    lt = omega (arith, c.loop-next-test.true, c.len-in-loop-next.ensures, c.loop-next.queue.ok.0)

    now : queued_at c.loop-next.queue.items c.loop-next.next ≡ c.index-s.result.now
    now = sym (now_queued c.loop-next.queue.items c.loop-next.next c.index-s.result.now lt c.index-s.ensures)

    known : queued_at c.loop-next.queue.items c.loop-next.next < length c.args.a.now.states
    known = reachable_state c.args.tess.now c.args.a.now c.requires (queued_at c.loop-next.queue.items c.loop-next.next) (c.loop-next.invariant.search.known c.loop-next.next lt)

pub returns : goal.returns
returns c =
    let e : c.loop-next.next ≡ length c.loop-next.queue.items = omega (arith, c.loop-next-test.false, c.len-in-loop-next.ensures, c.loop-next.queue.ok.0, c.loop-next.invariant.within) in
    all_reached c.args.tess.now c.args.a.now c.requires c.loop-next.marks.items c.loop-next.queue.items c.loop-next.invariant.search c.loop-next.invariant.roots
    (subst (ChildrenMarked c.args.tess.now c.args.a.now c.loop-next.marks.items c.loop-next.queue.items) e c.loop-next.invariant.children)
