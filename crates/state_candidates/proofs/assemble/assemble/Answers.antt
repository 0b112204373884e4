-- An automaton, or none where something is not there.
use Rattle.std.proofs.Common.{length, IfSome, IfNone, subst}
use Rattle.state_candidates.specs.Gathered.{HaveRoots, HaveStates, HaveCorners, LackStates, LackCorners}
use Rattle.state_candidates.proofs.Assembled.{assembled, none_lacking_states, none_lacking_corners}
use Rattle.state_candidates.proofs.assemble.assemble.Goals as goal

pub returns-in_default-2-clause-none : goal.returns-in_default-2-clause-none
returns-in_default-2-clause-none c =
    let rs = c.args.readers.now in
    none_lacking_states rs c.requires (subst (λ o. IfNone o (LackStates rs)) c.in_default-2.is c.in_ok-states.ensures.none)

pub returns-in_default-3-clause-none : goal.returns-in_default-3-clause-none
returns-in_default-3-clause-none c =
    let rs = c.args.readers.now in
    none_lacking_corners rs c.requires (subst (λ o. IfNone o (LackCorners rs)) c.in_default-3.is c.in_ok-corners.ensures.none)

pub returns-clause-some : goal.returns-clause-some
returns-clause-some c =
    let rs = c.args.readers.now in
    let roots : HaveRoots rs c.in-Some.roots.items (length rs) = subst (λ o. IfSome o (λ v. HaveRoots rs v.items (length rs))) c.in-Some.is c.in_ok-roots.ensures.some in
    let states : HaveStates rs c.in-Some-2.states.items (length rs) = subst (λ o. IfSome o (λ v. HaveStates rs v.items (length rs))) c.in-Some-2.is c.in_ok-states.ensures.some in
    let corners : HaveCorners rs c.in-Some-3.corners.items (length rs) = subst (λ o. IfSome o (λ v. HaveCorners rs v.items (length rs))) c.in-Some-3.is c.in_ok-corners.ensures.some in
    assembled rs c.requires (record { states = c.in-Some-2.states.items; corners = c.in-Some-3.corners.items; roots = c.in-Some.roots.items }) roots states corners
