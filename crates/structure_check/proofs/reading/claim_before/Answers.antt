use Rattle.std.proofs.Common.{◌<◌, arith}
use Rattle.tree_model.specs.Automata.{side_count}
use Rattle.structure_check.proofs.Closed.{claim_known}
use Rattle.structure_check.proofs.reading.claim_before.Goals as goal

pub returns-clause-known : goal.returns-clause-known
returns-clause-known c =
    let within : c.right_side.result < side_count c.args.tess.now c.args.a.now c.args.s = omega (arith, c.right_side.ensures.below, c.sides_of.ensures.value) in
    rw c.claim.ensures (claim_known c.args.tess.now c.args.a.now c.requires.closed c.args.s c.right_side.result c.requires.state within)
