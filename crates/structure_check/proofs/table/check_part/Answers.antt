use Rattle.std.proofs.Common.{◌<◌, arith}
use Rattle.structure_check.specs.Broken.{part_size}
use Rattle.structure_check.specs.Search.{part_number}
use Rattle.structure_check.proofs.Places.{part_ready, part_high, part_fails}
use Rattle.structure_check.proofs.table.check_part.Goals as goal

pub size-index-end-requires : goal.size-index-end-requires
size-index-end-requires c = part_ready c.args.tess.now c.args.a.now c.args.part c.requires

pub holds-requires-clause-ready : goal.holds-requires-clause-ready
holds-requires-clause-ready c = part_ready c.args.tess.now c.args.a.now c.args.part c.requires

pub returns-then-not-holds-clause-err : goal.returns-then-not-holds-clause-err
returns-then-not-holds-clause-err c =
    let p = part_number c.args.part in
    let within : c.loop-index.index < part_size c.args.tess.now c.args.a.now p = omega arith in
    rw c.number.ensures (part_fails c.args.tess.now c.args.a.now p c.loop-index.index (part_high c.args.tess.now c.args.a.now c.args.part) c.requires within (λ h. absurd (cc (c.holds.ensures.1 h, c.if-not-holds.true))) c.loop-index.invariant)
