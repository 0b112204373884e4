-- A cell is made, or nothing is done.
use Rattle.region_grower.proofs.Steps.{grown_same}
use Rattle.region_grower.proofs.growth.make_side.Goals as goal

pub returns-else-is_wanted-clause-grown : goal.returns-else-is_wanted-clause-grown
returns-else-is_wanted-clause-grown c = grown_same c.args.joins.now c.requires.growing.table

pub returns-else-made-most-clause-grown : goal.returns-else-made-most-clause-grown
returns-else-made-most-clause-grown c = grown_same c.args.joins.now c.requires.growing.table
