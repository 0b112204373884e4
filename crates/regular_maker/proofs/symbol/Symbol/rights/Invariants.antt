use Rattle.std.proofs.Common.{◌≡◌, ◌+◌, ◌-◌}
use Rattle.regular_maker.specs.States.{right_run}
use Rattle.regular_maker.proofs.symbol.Symbol.rights.Given as goal

abbrev pub invariant-loop-run : goal.invariant-loop-run
invariant-loop-run l = l.run + right_run l.self.q l.claim (l.self.p - 1 - l.run)
    ≡ right_run l.self.q l.fn.pair.first (l.self.p - 1)
