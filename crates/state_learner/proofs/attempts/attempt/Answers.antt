-- One horizon after the other.
use Rattle.std.proofs.Common.{◌+◌, ◌∙◌, subst, arith}
use Rattle.tree_model.specs.Automata.{TreeAutomaton}
use Rattle.tree_model.specs.Conditions.{IsAccepted}
use Rattle.state_candidates.specs.Candidates.{IsCandidate}
use Rattle.state_learner.specs.Growing.{IsTrial}
use Rattle.state_learner.proofs.Trials.{not_accepted, tried_more, all_tried, trial_of}
use Rattle.state_learner.proofs.attempts.attempt.Goals as goal
use Rattle.state_learner.proofs.attempts.attempt.Goals.{in_default-via-in-Missing+else-horizon-ge-SURE_HORIZON, in_default-via-in_default}

pub returns-in-Missing-clause-none : goal.returns-in-Missing-clause-none
returns-in-Missing-clause-none c =
    let h = c.loop-horizon.horizon in
    let regions = c.args.regions.now in
    let at = c.loop-horizon.candidates in
    let trial = trial_of c.args.t.now regions h at.horizon at.regions c.in_ok-rules.field-0 c.loop-horizon.invariant.regions c.loop-horizon.invariant.horizon c.in_ok-rules.ensures in
    let missing = subst (IsTrial c.args.t.now regions h) c.in-Missing.is trial in
    all_tried c.args.t.now regions (h + 1) (omega (arith, c.if-horizon-ge-SURE_HORIZON.true))
    (tried_more c.args.t.now regions h c.loop-horizon.invariant.tried (λ a is _. missing a is))

pub loop-horizon-preserved : goal.loop-horizon-preserved
loop-horizon-preserved c =
    let h = c.loop-horizon.horizon in
    let regions = c.args.regions.now in
    let at = c.loop-horizon.candidates in
    let trial = trial_of c.args.t.now regions h at.horizon at.regions c.in_ok-rules.field-0 c.loop-horizon.invariant.regions c.loop-horizon.invariant.horizon c.in_ok-rules.ensures in
    let none : (a : TreeAutomaton) → IsCandidate c.args.t.now regions h a → ¬ (IsAccepted c.args.t.now a) =
    elim c.in_default.branch [
      | in_default-via-in-Missing+else-horizon-ge-SURE_HORIZON w ↦ (λ a is _. subst (IsTrial c.args.t.now regions h) w.in-Missing.is trial a is)
      | in_default-via-in_default w ↦ not_accepted c.args.t.now regions h c.in_ok-rules.field-0 trial w.in_default.not-Accepted
    ] in
    record {
      regions = c.in_ok-farther-in_default.ensures.regions ∙ c.loop-horizon.invariant.regions;
      horizon = omega (arith, c.in_ok-farther-in_default.ensures.horizon, c.loop-horizon.invariant.horizon);
      tried = tried_more c.args.t.now regions h c.loop-horizon.invariant.tried none;
    }

pub returns-clause-none : goal.returns-clause-none
returns-clause-none c = all_tried c.args.t.now c.args.regions.now c.loop-horizon.horizon (omega (arith, c.loop-horizon-test.false)) c.loop-horizon.invariant.tried
