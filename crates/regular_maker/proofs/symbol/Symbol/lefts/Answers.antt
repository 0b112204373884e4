use Rattle.std.proofs.Common.{◌≡◌, ◌+◌, ◌-◌, arith, sym, subst}
use Rattle.tree_model.specs.declared.Claim.{Claim}
use Rattle.regular_maker.specs.States.{lefts, left_run}
use Rattle.regular_maker.proofs.Runs.{left_end, left_more, left_full}
use Rattle.regular_maker.proofs.symbol.Symbol.lefts.Goals as goal

pub returns-then-claim-ne0-clause-value : goal.returns-then-claim-ne0-clause-value
unfolding lefts
returns-then-claim-ne0-clause-value c =
    left_end c.args.self.q c.loop-run.claim (c.args.self.p - 1 - c.loop-run.run) c.loop-run.run
    (left_run c.args.self.q c.args.pair.last (c.args.self.p - 1))
    c.if-claim-ne0.true c.loop-run.invariant

pub loop-run-preserved : goal.loop-run-preserved
loop-run-preserved c =
    let more = left_more c.args.self.q c.loop-run.claim (c.args.self.p - 1 - c.loop-run.run)
    (c.args.self.p - 1 - (c.loop-run.run + 1)) c.loop-run.run
    (left_run c.args.self.q c.args.pair.last (c.args.self.p - 1)) c.if-claim-ne0.false
    (omega arith) c.loop-run.invariant in
    subst (λ (d : Claim).
    c.loop-run.run + 1 + left_run c.args.self.q d (c.args.self.p - 1 - (c.loop-run.run + 1))
    ≡ left_run c.args.self.q c.args.pair.last (c.args.self.p - 1))
    (sym c.outer-claim.ensures.value) more

pub returns-clause-value : goal.returns-clause-value
unfolding lefts
returns-clause-value c =
    omega (
      arith,
      left_full c.args.self.q c.loop-run.claim
          (c.args.self.p - 1 - c.loop-run.run) c.loop-run.run
          (left_run c.args.self.q c.args.pair.last (c.args.self.p - 1))
          (omega arith) c.loop-run.invariant,
    )
