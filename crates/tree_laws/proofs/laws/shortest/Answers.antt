use Rattle.tree_laws.proofs.Together.{places_distance, distance_depth, shortest_ways, distance_onwards}
use Rattle.tree_laws.proofs.laws.shortest.Goals as goal

pub returns-clause-place : goal.returns-clause-place
returns-clause-place c = places_distance

pub returns-clause-depth : goal.returns-clause-depth
returns-clause-depth c = distance_depth

pub returns-clause-ways : goal.returns-clause-ways
returns-clause-ways c = shortest_ways

pub returns-clause-onwards : goal.returns-clause-onwards
returns-clause-onwards c = distance_onwards
