use Rattle.std.proofs.Common.{◌≡◌, ◌+◌, drop}
use Rattle.regular_maker.specs.Automaton.{index_in}
use Rattle.regular_maker.proofs.numbering.index_of.Given as goal

abbrev pub invariant-loop-i : goal.invariant-loop-i
invariant-loop-i l = l.i + index_in (drop l.i l.pairs) l.pair ≡ index_in l.pairs l.pair
