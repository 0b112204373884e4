use Rattle.std.proofs.Common.{arith}
use Rattle.structure_check.proofs.Closed.{claim_known}
use Rattle.structure_check.proofs.sides.has_child_claims.Goals as goal

pub is_deeper-requires-then-is_further-2-clause-corner : goal.is_deeper-requires-then-is_further-2-clause-corner
is_deeper-requires-then-is_further-2-clause-corner c = rw c.claim-left.ensures (claim_known c.args.tess.now c.args.a.now c.requires.closed c.args.s c.args.i c.requires.state c.requires.side).corner

pub is_deeper-requires-then-is_further-2-clause-deeper : goal.is_deeper-requires-then-is_further-2-clause-deeper
is_deeper-requires-then-is_further-2-clause-deeper c =
    let known = claim_known c.args.tess.now c.args.a.now c.requires.closed c.args.s c.args.i c.requires.state c.requires.side in
    rw c.claim-left.ensures (omega (arith, known.place))

pub is_deeper-requires-then-is_further-2-clause-other : goal.is_deeper-requires-then-is_further-2-clause-other
is_deeper-requires-then-is_further-2-clause-other c = rw c.claim-left.ensures (claim_known c.args.tess.now c.args.a.now c.requires.closed c.args.s c.args.i c.requires.state c.requires.side).place
