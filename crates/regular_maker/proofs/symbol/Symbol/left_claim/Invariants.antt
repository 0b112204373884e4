use Rattle.std.proofs.Common.{◌≡◌}
use Rattle.regular_maker.specs.States.{left_claim}
use Rattle.regular_maker.proofs.symbol.Symbol.left_claim.Given as goal

abbrev pub invariant-loop-side : goal.invariant-loop-side
invariant-loop-side l = l.claim ≡ left_claim l.self.q l.fn.last l.side
