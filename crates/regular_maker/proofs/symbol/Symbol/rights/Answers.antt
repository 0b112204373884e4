use Rattle.std.proofs.Common.{◌≡◌, ◌+◌, ◌-◌, arith, sym, subst}
use Rattle.tree_model.specs.declared.Claim.{Claim}
use Rattle.regular_maker.specs.States.{rights, right_run}
use Rattle.regular_maker.proofs.Runs.{right_end, right_more, right_full}
use Rattle.regular_maker.proofs.symbol.Symbol.rights.Goals as goal

pub returns-then-claim-self-clause-value : goal.returns-then-claim-self-clause-value
unfolding rights
returns-then-claim-self-clause-value c =
    right_end c.args.self.q c.loop-run.claim (c.args.self.p - 1 - c.loop-run.run) c.loop-run.run
    (right_run c.args.self.q c.args.pair.first (c.args.self.p - 1))
    (omega arith) c.loop-run.invariant

pub loop-run-preserved : goal.loop-run-preserved
loop-run-preserved c =
    let more = right_more c.args.self.q c.loop-run.claim (c.args.self.p - 1 - c.loop-run.run)
    (c.args.self.p - 1 - (c.loop-run.run + 1)) c.loop-run.run
    (right_run c.args.self.q c.args.pair.first (c.args.self.p - 1)) (omega arith)
    (omega arith) c.loop-run.invariant in
    subst (λ (d : Claim).
    c.loop-run.run + 1 + right_run c.args.self.q d (c.args.self.p - 1 - (c.loop-run.run + 1))
    ≡ right_run c.args.self.q c.args.pair.first (c.args.self.p - 1))
    (sym c.beyond-claim.ensures) more

pub returns-clause-value : goal.returns-clause-value
unfolding rights
returns-clause-value c =
    omega (
      arith,
      right_full c.args.self.q c.loop-run.claim
          (c.args.self.p - 1 - c.loop-run.run) c.loop-run.run
          (right_run c.args.self.q c.args.pair.first (c.args.self.p - 1))
          (omega arith) c.loop-run.invariant,
    )
