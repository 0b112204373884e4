-- One time more, or a join is missing.
use Rattle.std.proofs.Common.{◌≡◌, ◌+◌, Some, None, sym, ap, ◌∙◌, arith}
use Rattle.coincidence.specs.Tables.{joined_to}
use Rattle.region_grower.specs.Corners.{left_of}
use Rattle.region_grower.proofs.Closing.{rounds_more, rounds_stuck}
use Rattle.region_grower.proofs.corners.round.Goals as goal

pub loop-time-preserved : goal.loop-time-preserved
loop-time-preserved c =
    let t = c.args.joins.now in
    let over : Some c.in-Some.over ≡ joined_to t (left_of c.loop-time.at) = sym c.in-Some.is ∙ (c.joined.ensures.value ∙ ap (joined_to t) c.left.ensures) in
    record { come = sym (rounds_more t c.args.d c.loop-time.at c.loop-time.time (Some c.in-Some.over) c.loop-time.invariant.come over); side = c.in-Some.ensures.side }

pub returns-in-None : goal.returns-in-None
returns-in-None c =
    let t = c.args.joins.now in
    let over : None ≡ joined_to t (left_of c.loop-time.at) = sym c.in-None.is ∙ (c.joined.ensures.value ∙ ap (joined_to t) c.left.ensures) in
    let none = rounds_more t c.args.d c.loop-time.at c.loop-time.time None c.loop-time.invariant.come over in
    sym (rounds_stuck t c.args.d (c.loop-time.time + 1) c.args.times (omega (arith, c.loop-time-test.true)) (sym none))
