-- One more region.
use Rattle.std.proofs.Common.{◌+◌, sym, subst}
use Rattle.state_learner.specs.Growing.{AreStarted}
use Rattle.state_learner.proofs.Starting.{started_push}
use Rattle.state_learner.proofs.rounds.start_regions.Goals as goal

pub loop-kind-preserved : goal.loop-kind-preserved
loop-kind-preserved c =
    subst (AreStarted c.args.t.now (c.loop-kind.kind + 1)) (sym c.in_ok-push.ensures.items)
    (started_push c.args.t.now c.loop-kind.kind c.loop-kind.regions.items c.in_ok-start.field-0 c.loop-kind.invariant
    c.in_ok-start.ensures.first c.in_ok-start.ensures.table c.in_ok-start.ensures.from c.in_ok-start.ensures.layers)
