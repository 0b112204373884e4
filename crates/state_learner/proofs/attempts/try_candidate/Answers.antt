-- The candidate is the only one, so where it is refused each is.
use Rattle.std.proofs.Common.{◌≡◌, IfSome, IfNone, subst}
use Rattle.tree_model.specs.Automata.{TreeAutomaton}
use Rattle.state_candidates.specs.Candidates.{IsCandidate}
use Rattle.state_learner.proofs.Trials.{one_refused, some_not_none}
use Rattle.state_learner.proofs.attempts.try_candidate.Goals as goal

pub returns-in_default : goal.returns-in_default
returns-in_default c =
    subst (λ o. IfNone o ((a : TreeAutomaton) → ¬ (IsCandidate c.args.t.now c.args.candidates.now.regions c.args.candidates.now.horizon a)))
    c.in_default.is c.in_ok-automaton.ensures.none

pub returns-then-is_some : goal.returns-then-is_some
returns-then-is_some c =
    let here = c.args.candidates.now in
    let only = subst (λ o. IfSome o (λ a. (b : TreeAutomaton) → IsCandidate c.args.t.now here.regions here.horizon b → b ≡ a)) c.in-Some.is c.in_ok-automaton.ensures.only in
    one_refused c.args.t.now here.regions here.horizon c.in-Some.automaton only
    (λ accepted. some_not_none c.first_broken.result c.if-is_some.ensures (c.first_broken.ensures.exactly.1 accepted))
