use Rattle.tree_laws.proofs.Together.{rings_distance, rings_whole, rings_places, rings_exist, rings_count, names_apart}
use Rattle.tree_laws.proofs.laws.rings.Goals as goal

pub returns-clause-distance : goal.returns-clause-distance
returns-clause-distance c = rings_distance

pub returns-clause-whole : goal.returns-clause-whole
returns-clause-whole c = rings_whole

pub returns-clause-places : goal.returns-clause-places
returns-clause-places c = rings_places

pub returns-clause-apart : goal.returns-clause-apart
returns-clause-apart c = names_apart

pub returns-clause-counts : goal.returns-clause-counts
returns-clause-counts c = rings_count

pub returns-clause-exist : goal.returns-clause-exist
returns-clause-exist c = rings_exist
