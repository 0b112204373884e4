use Rattle.std.proofs.Common.{ap, ap₂, ◌∙◌, ◌∷◌, [], sym, subst, arith, ◌≡◌, length}
use Rattle.tree_model.specs.Automata.{state_at, rule_at}
use Rattle.spot_laws.specs.Spots.{IsAtChild, tile_state, rejoined}
use Rattle.spot_laws.proofs.Spots.{tile_known, spin_small, all_one, rejoined_down}
use Rattle.turn_rules.proofs.spot.Spot.down.Goals as goal

pub rule-requires-clause-state : goal.rule-requires-clause-state
rule-requires-clause-state c =
    let a = c.automaton-automaton.ensures in
    let known = tile_known c.args.r.now a.sound c.args.self.now c.requires.spot in
    omega (arith, known, c.state.ensures.reached c.args.r.now c.requires.spot, ap (λ b. length b.states) a.value)

pub rule-requires-clause-side : goal.rule-requires-clause-side
rule-requires-clause-side c =
    let a = c.automaton-automaton.ensures in
    let tile = tile_state c.args.r.now c.args.self.now in
    let known = tile_known c.args.r.now a.sound c.args.self.now c.requires.spot in
    let same = ap₂ (λ b s. length (state_at b s).rules) a.value (c.state.ensures.reached c.args.r.now c.requires.spot) in
    let rules = (a.sound.accepted.c1.tables tile known).rules in
    omega (arith, same, rules, c.requires.spot.there.side, ap (λ s. s.spin) c.self.view_is)

pub rejoin-requires-clause-below : goal.rejoin-requires-clause-below
rejoin-requires-clause-below c =
    let small = spin_small c.args.r.now c.automaton-automaton.ensures.sound c.args.self.now c.requires.spot in
    all_one c.rejoin.inside.spin (omega (arith, ap (λ s. s.spin) c.rejoin.view_is, small))

pub returns-clause-child : goal.returns-clause-child
returns-clause-child c =
    let a = c.automaton-automaton.ensures in
    let tile = c.state.ensures.reached c.args.r.now c.requires.spot in
    let spin = ap (λ s. s.spin) c.self.view_is in
    let read = c.rule.ensures ∙ ap (λ b. rule_at b c.state.result c.self.inside.spin) a.value in
    let rule = sym (read ∙ ap₂ (rule_at c.args.r.now.automaton) tile spin) ∙ c.in-Child.is in
    let faced = ap (λ s. s.spin) c.rejoin.view_is in
    let down = rejoined_down c.args.r.now a.sound c.args.self.now c.level.result c.rejoin.inside.spin c.in-Child.child c.requires.spot rule c.level.ensures faced in
    let went = rejoined c.args.self.now c.level.result (c.rejoin.inside.spin ∷ []) (c.in-Child.child ∷ []) 0 in
    let there : c.rejoin-2.new.self ≡ went → IsAtChild c.args.r.now c.args.self.now c.rejoin-2.new.self =
    λ e. subst (IsAtChild c.args.r.now c.args.self.now) (sym e) down in
    grind (arith, there, c.rejoin-2.ensures.rejoined)
