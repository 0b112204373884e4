use Rattle.std.proofs.Common.{◌≡◌, ◌≤◌, ◌-◌, length}
use Rattle.regular_maker.specs.Automaton.{pairs_met}
use Rattle.regular_maker.proofs.numbering.all_pairs.Given as goal

abbrev pub invariant-loop-next : goal.invariant-loop-next
invariant-loop-next l = (l.pairs.items ≡ pairs_met l.symbol.p l.symbol.q l.next)
    × (l.next ≤ length l.pairs.items)

abbrev pub decreases-loop-next : goal.decreases-loop-next
decreases-loop-next l = 16384 - l.next
