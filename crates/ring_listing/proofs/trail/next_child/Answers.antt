use Rattle.std.proofs.Common.{◌≡◌, length, sym, ap, ◌∙◌, arith}
use Rattle.std.proofs.lemmas.Bool.{cases_lt}
use Rattle.tree_model.specs.Automata.{TreeState, state_at, rule_at}
use Rattle.ring_listing.proofs.Known.{few_sides}
use Rattle.std.proofs.Common.{⊎_elim}
use Rattle.ring_listing.proofs.trail.next_child.Goals as goal

pub overflow_cast-sides : goal.overflow_cast-sides
overflow_cast-sides c =
    let rules = ap (λ (x : TreeState). length x.rules) (c.behind-automaton.view_is ∙ c.state.ensures ∙ ap (λ b. state_at b c.args.state) c.automaton-automaton.ensures.value) in
    let sound = c.automaton-automaton.ensures.sound in
    let tables = (sound.accepted.c1.tables c.args.state c.requires).rules in
    let few = few_sides c.args.r.now sound c.args.state c.requires in
    omega (arith, rules, tables, few, c.len-sides.ensures)

pub returns-in-Child-clause-below : goal.returns-in-Child-clause-below
returns-in-Child-clause-below c =
    let rules = ap (λ (x : TreeState). length x.rules) (c.behind-automaton.view_is ∙ c.state.ensures ∙ ap (λ b. state_at b c.args.state) c.automaton-automaton.ensures.value) in
    let sound = c.automaton-automaton.ensures.sound in
    let tables = (sound.accepted.c1.tables c.args.state c.requires).rules in
    let few = few_sides c.args.r.now sound c.args.state c.requires in
    omega (arith, rules, tables, few, c.len-sides.ensures)

pub loop-i-preserved : goal.loop-i-preserved
loop-i-preserved c = λ x d from below e.
    let same = c.rule.ensures ∙ ap (λ b. rule_at b c.args.state c.loop-i.i) c.automaton-automaton.ensures.value in
    ⊎_elim (λ l. c.loop-i.invariant x d from l e)
    (λ l. let here : x ≡ c.loop-i.i = omega (arith, l, below) in c.in_default.not-Child d (same ∙ ap (rule_at c.args.r.now.automaton c.args.state) (sym here) ∙ e))
    (cases_lt x c.loop-i.i)
