use Rattle.structure_check.proofs.Closed.{claim_known}
use Rattle.structure_check.proofs.sides.has_claim_valence.Goals as goal

pub valence-requires : goal.valence-requires
valence-requires c = rw c.claim.ensures (claim_known c.args.tess.now c.args.a.now c.requires.closed c.args.s c.args.i c.requires.state c.requires.side).corner
