use Rattle.std.proofs.Common.{◌∙◌, sym}
use Rattle.structure_check.proofs.Closed.{right_inner}
use Rattle.structure_check.proofs.sides.keeps_claims.Goals as goal

pub has_child_claims-requires-clause-child : goal.has_child_claims-requires-clause-child
has_child_claims-requires-clause-child c = (c.requires.closed.targets c.args.s c.requires.state).child c.args.i c.in-Child.c c.requires.side (sym c.rule.ensures ∙ c.in-Child.is)

pub has_child_claims-requires-clause-right_inner : goal.has_child_claims-requires-clause-right_inner
has_child_claims-requires-clause-right_inner c = right_inner c.args.tess.now c.args.a.now c.requires.closed c.requires.last_places c.args.s c.args.i c.in-Child.c c.requires.state c.requires.side (sym c.rule.ensures ∙ c.in-Child.is)
