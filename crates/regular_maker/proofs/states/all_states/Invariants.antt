use Rattle.std.proofs.Common.{◌≡◌, ◌∷◌}
use Rattle.regular_maker.specs.Corners.{listed}
use Rattle.regular_maker.specs.Automaton.{root_state, nth_state}
use Rattle.regular_maker.proofs.states.all_states.Given as goal

abbrev pub invariant-loop-n : goal.invariant-loop-n
invariant-loop-n l = l.states.items
    ≡ root_state l.symbol.p l.symbol.q ∷ listed (nth_state l.symbol.p l.symbol.q l.pairs) l.n
