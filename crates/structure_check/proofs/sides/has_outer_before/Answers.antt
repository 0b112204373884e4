use Rattle.structure_check.proofs.Closed.{claim_known}
use Rattle.structure_check.proofs.sides.has_outer_before.Goals as goal

pub outer-requires : goal.outer-requires
outer-requires c = rw c.claim.ensures (claim_known c.args.tess.now c.args.a.now c.requires.closed c.args.s c.args.i c.requires.state c.requires.side).corner
