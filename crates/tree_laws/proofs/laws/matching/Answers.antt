use Rattle.tree_laws.proofs.Together.{left_sides, right_sides}
use Rattle.tree_laws.proofs.laws.matching.Goals as goal

pub returns-clause-left_sides : goal.returns-clause-left_sides
returns-clause-left_sides c = left_sides

pub returns-clause-right_sides : goal.returns-clause-right_sides
returns-clause-right_sides c = right_sides
