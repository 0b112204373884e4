use Rattle.std.proofs.Common.{ap, arith}
use Rattle.ring_listing.proofs.Onwards.{went_down, went_back, ended}
use Rattle.ring_listing.proofs.trail.Trail.move_on.Goals as goal

pub returns-in-None-clause-end : goal.returns-in-None-clause-end
returns-in-None-clause-end c = λ _. ended c.args.r.now c.args.kind c.args.self.now (omega arith) c.in-None.ensures.none

pub returns-in-Some-clause-trail : goal.returns-in-Some-clause-trail
returns-in-Some-clause-trail c =
    let e = c.go_down.ensures in
    (went_down c.args.r.now c.args.kind c.args.self.now c.go_down.new.self c.in-Some.side c.in-Some.child c.requires.trail c.in-Some.ensures.next c.in-Some.ensures.level c.in-Some.ensures.below e.name e.states e.level e.first).trail

pub returns-in-Some-clause-same : goal.returns-in-Some-clause-same
returns-in-Some-clause-same c =
    let e = c.go_down.ensures in
    (went_down c.args.r.now c.args.kind c.args.self.now c.go_down.new.self c.in-Some.side c.in-Some.child c.requires.trail c.in-Some.ensures.next c.in-Some.ensures.level c.in-Some.ensures.below e.name e.states e.level e.first).same

pub returns-in-Some-clause-fewer : goal.returns-in-Some-clause-fewer
returns-in-Some-clause-fewer c =
    let e = c.go_down.ensures in
    λ _. (went_down c.args.r.now c.args.kind c.args.self.now c.go_down.new.self c.in-Some.side c.in-Some.child c.requires.trail c.in-Some.ensures.next c.in-Some.ensures.level c.in-Some.ensures.below e.name e.states e.level e.first).fewer

pub returns-in-None-2-clause-trail : goal.returns-in-None-2-clause-trail
returns-in-None-2-clause-trail c =
    let e = c.go_back.ensures in
    (went_back c.args.r.now c.args.kind c.args.self.now c.go_back.new.self c.requires.trail c.in-None-2.ensures.none e.name (ap (λ v. v.items) e.states) e.level e.behind e.small).trail

pub returns-in-None-2-clause-same : goal.returns-in-None-2-clause-same
returns-in-None-2-clause-same c =
    let e = c.go_back.ensures in
    (went_back c.args.r.now c.args.kind c.args.self.now c.go_back.new.self c.requires.trail c.in-None-2.ensures.none e.name (ap (λ v. v.items) e.states) e.level e.behind e.small).same

pub returns-in-None-2-clause-fewer : goal.returns-in-None-2-clause-fewer
returns-in-None-2-clause-fewer c =
    let e = c.go_back.ensures in
    λ _. (went_back c.args.r.now c.args.kind c.args.self.now c.go_back.new.self c.requires.trail c.in-None-2.ensures.none e.name (ap (λ v. v.items) e.states) e.level e.behind e.small).fewer
