use Rattle.std.proofs.Common.{◌≡◌}
use Rattle.regular_maker.specs.Corners.{listed}
use Rattle.regular_maker.specs.States.{pair_claim}
use Rattle.regular_maker.specs.Automaton.{pair_rule}
use Rattle.regular_maker.proofs.states.pair_state.Given as goal

abbrev pub invariant-loop-side : goal.invariant-loop-side
invariant-loop-side l =
    (l.rules.items ≡ listed (pair_rule l.symbol.p l.symbol.q l.pairs l.pair) l.side)
    × (l.claims.items ≡ listed (pair_claim l.symbol.p l.symbol.q l.pair) l.side)
