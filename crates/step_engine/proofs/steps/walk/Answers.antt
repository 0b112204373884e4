use Rattle.std.proofs.Common.{sym, subst}
use Rattle.step_engine.specs.Crossings.{WalksDeep}
use Rattle.step_engine.proofs.Far.{walks_far, walks_deep}
use Rattle.step_engine.proofs.steps.walk.Goals as goal

pub returns-clause-far : goal.returns-clause-far
returns-clause-far c = λ e.
    let deep = subst (λ r. WalksDeep r c.args.s.now c.args.w.now 4000) c.new.ensures (c.walk_over.ensures.deep e) in
    walks_far c.args.r.now c.accepted.ensures c.args.s.now c.requires 4000 c.args.w.now deep

pub returns-clause-too_far : goal.returns-clause-too_far
returns-clause-too_far c = λ far.
    let deep = walks_deep c.args.r.now c.accepted.ensures c.args.s.now c.requires 4000 c.args.w.now far in
    c.walk_over.ensures.too_deep (subst (λ r. WalksDeep r c.args.s.now c.args.w.now 4000) (sym c.new.ensures) deep)
