use Rattle.std.proofs.Common.{◌≡◌}
use Rattle.regular_maker.specs.States.{right_claim}
use Rattle.regular_maker.proofs.symbol.Symbol.right_claim.Given as goal

abbrev pub invariant-loop-side : goal.invariant-loop-side
invariant-loop-side l = l.claim ≡ right_claim l.self.q l.fn.first l.side
