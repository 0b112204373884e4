use Rattle.std.proofs.Common.{Err, ap}
use Rattle.cell_distance.proofs.Spotted.{way}
use Rattle.cell_distance.proofs.Arriving.{may_face, turned, way_leads, deep_far, far_deep, end_near, was_no_fault, was_deep}
use Rattle.cell_distance.proofs.arrival.arrive_between.Goals as goal

pub face-requires-clause-side : goal.face-requires-clause-side
face-requires-clause-side c = may_face c.args.r.now c.requires.sound c.args.kind c.requires.kind c.in_ok-spot.spot c.args.side c.requires.side c.in_ok-spot.ensures

pub returns-in_err-walk_between-clause-deep : goal.returns-in_err-walk_between-clause-deep
returns-in_err-walk_between-clause-deep c = λ e.
    let at = turned c.args.r.now c.args.kind c.args.side c.in_ok-spot.spot c.face.new.self c.in_ok-spot.ensures c.face.ensures.spot in
    let fault = was_deep c.in_err-walk_between.field-0.0 c.from_residual-in_err-walk_between.result c.from_residual-in_err-walk_between.ensures.1 e in
    deep_far c.args.r.now c.requires.sound c.args.kind c.requires.kind c.face.new.self c.args.side c.requires.side at (way c.args.back.now c.args.spin c.args.onwards.now) (c.in_err-walk_between.ensures.deep (ap Err fault))

pub returns-clause-leads : goal.returns-clause-leads
returns-clause-leads c =
    let at = turned c.args.r.now c.args.kind c.args.side c.in_ok-spot.spot c.face.new.self c.in_ok-spot.ensures c.face.ensures.spot in
    way_leads c.args.r.now c.requires.sound c.args.kind c.requires.kind c.face.new.self c.args.side c.requires.side at (way c.args.back.now c.args.spin c.args.onwards.now) _ c.in_ok-walk_between.ensures.leads

pub returns-clause-near : goal.returns-clause-near
returns-clause-near c =
    let at = turned c.args.r.now c.args.kind c.args.side c.in_ok-spot.spot c.face.new.self c.in_ok-spot.ensures c.face.ensures.spot in
    end_near c.args.r.now c.requires.sound c.args.kind c.requires.kind c.face.new.self c.args.side c.requires.side at (way c.args.back.now c.args.spin c.args.onwards.now) _ c.in_ok-walk_between.ensures.leads (λ d. was_no_fault c.walk_between.result c.in_ok-walk_between.field-0 c.in_ok-walk_between.was (c.walk_between.ensures.too_deep d))

pub returns-clause-too_deep : goal.returns-clause-too_deep
returns-clause-too_deep c = λ f.
    let at = turned c.args.r.now c.args.kind c.args.side c.in_ok-spot.spot c.face.new.self c.in_ok-spot.ensures c.face.ensures.spot in
    absurd (was_no_fault c.walk_between.result c.in_ok-walk_between.field-0 c.in_ok-walk_between.was (c.walk_between.ensures.too_deep (far_deep c.args.r.now c.requires.sound c.args.kind c.requires.kind c.face.new.self c.args.side c.requires.side at (way c.args.back.now c.args.spin c.args.onwards.now) f)))
