-- A last side, or else one that leads nearer.
use Rattle.std.proofs.Common.{sym, ◌∙◌}
use Rattle.look_classes.proofs.Parents.{parent_last, parent_near}
use Rattle.look_classes.proofs.tree.parent_of.Goals as goal

pub returns-in-Some : goal.returns-in-Some
returns-in-Some c = sym (parent_last c.args.region.now c.args.cell c.in-Some.side (sym c.last_side.ensures ∙ c.in-Some.is))

pub returns-in-None : goal.returns-in-None
returns-in-None c = c.near_side.ensures ∙ sym (parent_near c.args.region.now c.args.cell (sym c.last_side.ensures ∙ c.in-None.is))
