use Rattle.tree_laws.proofs.Together.{across_is_near, depth_distance}
use Rattle.tree_laws.proofs.laws.levels.Goals as goal

pub returns-clause-near : goal.returns-clause-near
returns-clause-near c = across_is_near

pub returns-clause-distance : goal.returns-clause-distance
returns-clause-distance c = depth_distance
