-- What the rounds come to.
use Rattle.std.proofs.Common.{◌∙◌, IfNone, subst, sym, arith}
use Rattle.std.proofs.lemmas.List.{take_at}
use Rattle.state_learner.specs.Learning.{HasGivenUp, NoneAccepted}
use Rattle.state_learner.specs.Growing.{AreGrowing, IsOutcome}
use Rattle.state_learner.proofs.Layers.{gives_up}
use Rattle.state_learner.proofs.by_regions.learn_by_regions.Goals as goal

pub grow_regions-requires-clause-growing : goal.grow_regions-requires-clause-growing
grow_regions-requires-clause-growing c = λ left split.
    subst (AreGrowing c.args.t.now c.args.budget left 0 0) (sym c.deref_mut.ensures.value)
    (c.in_ok-regions.ensures.growing left (omega (arith, split, c.deref_mut.ensures.len)))

pub returns-clause-fault : goal.returns-clause-fault
returns-clause-fault c =
    let regions = c.grow_regions.new.regions in
    let same = take_at regions _ c.in_ok-regions.regions.len (omega (arith, c.grow_regions.auto.regions, c.deref_mut.ensures.len)) in
    let spent = subst (IsOutcome c.args.t.now c.args.budget regions) c.in-Spent.is c.in_ok-rules.ensures in
    let none = subst (λ o. IfNone o (NoneAccepted c.args.t.now c.deref.result.now 8)) c.in-None.is c.in_ok-rules-in-Spent.ensures.none in
    subst (HasGivenUp c.args.t.now c.args.budget) (sym same)
    (gives_up c.args.t.now c.args.budget regions c.requires.irregular spent (subst (λ rs. NoneAccepted c.args.t.now rs 8) (c.deref.ensures.value ∙ same) none))
