-- A live cell was made.
use Rattle.look_classes.proofs.tree.sides.Goals as goal

pub made_sides-requires : goal.made_sides-requires
made_sides-requires c = c.joins-joins.ensures.table.live_made c.args.cell c.requires
