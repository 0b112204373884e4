use Rattle.std.proofs.Common.{ap, ap₂, sym, subst, arith, length}
use Rattle.tree_model.specs.Automata.{state_at}
use Rattle.spot_laws.specs.Spots.{IsSpot, tile_state}
use Rattle.spot_laws.proofs.Spots.{tile_known}
use Rattle.derivation_log.proofs.place.Place.rule.Goals as goal

pub rule-requires-clause-state : goal.rule-requires-clause-state
rule-requires-clause-state c =
    let spot = subst (IsSpot c.args.r.now) (sym c.self.view_is) c.requires in
    let known = tile_known c.args.r.now c.automaton.ensures.sound c.self.inside.spot spot in
    omega (arith, known, c.state.ensures.reached c.args.r.now spot, ap (λ b. length b.states) c.automaton.ensures.value)

pub rule-requires-clause-side : goal.rule-requires-clause-side
rule-requires-clause-side c =
    let spot = subst (IsSpot c.args.r.now) (sym c.self.view_is) c.requires in
    let tile = tile_state c.args.r.now c.self.inside.spot in
    let known = tile_known c.args.r.now c.automaton.ensures.sound c.self.inside.spot spot in
    let same = ap₂ (λ b s. length (state_at b s).rules) c.automaton.ensures.value (c.state.ensures.reached c.args.r.now spot) in
    let rules = (c.automaton.ensures.sound.accepted.c1.tables tile known).rules in
    omega (arith, same, rules, spot.there.side, c.spin.ensures)
