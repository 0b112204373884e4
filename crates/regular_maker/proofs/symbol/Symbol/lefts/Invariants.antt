use Rattle.std.proofs.Common.{◌≡◌, ◌+◌, ◌-◌}
use Rattle.regular_maker.specs.States.{left_run}
use Rattle.regular_maker.proofs.symbol.Symbol.lefts.Given as goal

abbrev pub invariant-loop-run : goal.invariant-loop-run
invariant-loop-run l = l.run + left_run l.self.q l.claim (l.self.p - 1 - l.run)
    ≡ left_run l.self.q l.fn.pair.last (l.self.p - 1)
