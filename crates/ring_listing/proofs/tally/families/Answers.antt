use Rattle.std.proofs.Common.{◌≡◌, ℕ, ◌+◌, ◌<◌, List, [], ◌∷◌, length, slice_index_or, sym, ap, ◌∙◌, subst, arith, length-append}
use Rattle.tree_model.specs.Automata.{TreeAutomaton}
use Rattle.ring_listing.specs.declared.family.Children.{Children}
use Rattle.ring_listing.specs.Populations.{IsFamily}
use Rattle.ring_listing.proofs.Families.{family_push}
use Rattle.ring_listing.proofs.tally.families.Goals as goal

pub loop-state-preserved : goal.loop-state-preserved
loop-state-preserved c =
    let items = c.in_ok-push.ensures.items in
    let more = family_push c.args.r.now.kinds c.args.r.now.automaton c.loop-state.families.items c.loop-state.state c.in_ok-of.field-0 c.loop-state.invariant.count c.loop-state.invariant.each c.in_ok-of.ensures in
    record {
      count = omega (arith, ap length items, length-append c.loop-state.families.items (c.in_ok-of.field-0 ∷ []), c.loop-state.invariant.count);
      each = subst (λ (fs : List (List Children)). (s : ℕ) → s < c.loop-state.state + 1 → IsFamily c.args.r.now.kinds c.args.r.now.automaton s (slice_index_or fs s [])) (sym items) more;
    }

pub returns : goal.returns
returns c =
    let count = ap (λ (x : TreeAutomaton). length x.states) (c.behind-r.view_is ∙ c.automaton.ensures.value) in
    let all : c.loop-state.state ≡ length c.args.r.now.automaton.states = omega (arith, count, c.len-count.ensures) in
    record {
      each = c.loop-state.invariant.count ∙ all;
      family = λ s less. c.loop-state.invariant.each s (omega (arith, less, c.loop-state.invariant.count));
    }
