use Rattle.std.proofs.Common.{arith}
use Rattle.structure_check.specs.Search.{HoldBelow}
use Rattle.structure_check.proofs.Places.{corners_ready, accepted}
use Rattle.structure_check.proofs.conditions.check_all.Goals as goal

pub check_corners-requires : goal.check_corners-requires
check_corners-requires c = corners_ready c.args.tess.now c.args.a.now 10 (omega arith) c.in_ok-check_sides-8.ensures.ok

pub check_corners-requires-2 : goal.check_corners-requires-2
check_corners-requires-2 c = corners_ready c.args.tess.now c.args.a.now 10 (omega arith) c.in_ok-check_sides-8.ensures.ok

pub check_cycles-requires : goal.check_cycles-requires
check_cycles-requires c = corners_ready c.args.tess.now c.args.a.now 10 (omega arith) c.in_ok-check_sides-8.ensures.ok

pub returns-clause-ok : goal.returns-clause-ok
returns-clause-ok c =
    let b10 : HoldBelow c.args.tess.now c.args.a.now 10 = c.in_ok-check_sides-8.ensures.ok in
    let b11 : HoldBelow c.args.tess.now c.args.a.now 11 = c.in_ok-check_corners.ensures.ok c.args.tess.now b10 in
    let b12 : HoldBelow c.args.tess.now c.args.a.now 12 = c.in_ok-check_corners-2.ensures.ok c.args.tess.now b11 in
    accepted c.args.tess.now c.args.a.now (c.in_ok-check_cycles.ensures.ok c.args.tess.now b12)
