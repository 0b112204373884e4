use Rattle.std.proofs.Common.{◌≡◌}
use Rattle.regular_maker.specs.States.{child_pairs}
use Rattle.regular_maker.specs.Automaton.{with_pairs}
use Rattle.regular_maker.proofs.numbering.meet.Given as goal

abbrev pub invariant-loop-side : goal.invariant-loop-side
invariant-loop-side l
    = l.pairs.items ≡ with_pairs l.initial.pairs.items
    (child_pairs l.symbol.p l.symbol.q l.pair l.side)
