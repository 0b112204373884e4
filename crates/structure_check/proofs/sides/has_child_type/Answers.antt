use Rattle.std.proofs.Common.{◌∙◌, sym}
use Rattle.structure_check.proofs.sides.has_child_type.Goals as goal

pub state-child-requires : goal.state-child-requires
state-child-requires c = (c.requires.closed.targets c.args.s c.requires.state).child c.args.i c.in-Child.c c.requires.side (sym c.rule.ensures ∙ c.in-Child.is)
