use Rattle.std.proofs.Common.{◌≡◌, ◌+◌, ◌<◌, length, sym, ap, ap₂, ◌∙◌, arith}
use Rattle.tree_model.specs.Automata.{TreeState, state_at, rule_at, side_count}
use Rattle.ring_listing.proofs.Known.{few_sides}
use Rattle.tree_model.proofs.Rings.{count_sides, count_rule}
use Rattle.ring_listing.specs.Populations.{offspring_sum}
use Rattle.ring_listing.proofs.Sums.{sides_last}
use Rattle.ring_listing.proofs.family.Family.of.Goals as goal

pub overflow_cast-sides : goal.overflow_cast-sides
overflow_cast-sides c =
    let rules = ap (λ (x : TreeState). length x.rules) (c.behind-automaton.view_is ∙ c.state.ensures ∙ ap (λ b. state_at b c.args.state) c.automaton-automaton.ensures.value) in
    let sound = c.automaton-automaton.ensures.sound in
    let tables = (sound.accepted.c1.tables c.args.state c.requires).rules in
    let few = few_sides c.args.r.now sound c.args.state c.requires in
    omega (arith, rules, tables, few, c.len-sides.ensures)

pub loop-side-preserved : goal.loop-side-preserved
loop-side-preserved c =
    let rules = ap (λ (x : TreeState). length x.rules) (c.behind-automaton.view_is ∙ c.state.ensures ∙ ap (λ b. state_at b c.args.state) c.automaton-automaton.ensures.value) in
    let sound = c.automaton-automaton.ensures.sound in
    let tables = (sound.accepted.c1.tables c.args.state c.requires).rules in
    let few = few_sides c.args.r.now sound c.args.state c.requires in
    let a = c.args.r.now.automaton in
    let i = c.loop-side.side in
    let same : c.rule.result ≡ rule_at a c.args.state i = c.rule.ensures ∙ ap (λ b. rule_at b c.args.state i) c.automaton-automaton.ensures.value in
    let within : i < side_count c.args.r.now.kinds a c.args.state = omega (arith, rules, tables, c.len-sides.ensures) in
    record {
      known = c.in_ok-add_side.ensures.known (length a.states) (λ d e. (sound.accepted.c1.targets c.args.state c.requires).child i d within (sym same ∙ e)) c.loop-side.invariant.known;
      few = λ k d less. let small = c.in_ok-add_side.ensures.few i c.loop-side.invariant.few k d less in omega (arith, small);
      sums = λ f. c.in_ok-add_side.ensures.sums f
          ∙ ap₂ (λ x q. x + count_rule f q) (c.loop-side.invariant.sums f) same
          ∙ sides_last (λ j. count_rule f (rule_at a c.args.state j)) i;
    }

pub returns : goal.returns
unfolding offspring_sum
returns c =
    let rules = ap (λ (x : TreeState). length x.rules) (c.behind-automaton.view_is ∙ c.state.ensures ∙ ap (λ b. state_at b c.args.state) c.automaton-automaton.ensures.value) in
    let sound = c.automaton-automaton.ensures.sound in
    let tables = (sound.accepted.c1.tables c.args.state c.requires).rules in
    let few = few_sides c.args.r.now sound c.args.state c.requires in
    let all : c.loop-side.side ≡ side_count c.args.r.now.kinds c.args.r.now.automaton c.args.state = omega (arith, rules, tables, c.len-sides.ensures) in
    record {
      known = c.loop-side.invariant.known;
      sums = λ f. c.loop-side.invariant.sums f ∙ ap (λ n. count_sides (λ j. count_rule f (rule_at c.args.r.now.automaton c.args.state j)) n 0) all;
    }
