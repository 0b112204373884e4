use Rattle.step_engine.proofs.Far.{deep_crossings, deep_walks}
use Rattle.step_engine.proofs.laws.deep_is_far.Goals as goal

pub returns-clause-crossings : goal.returns-clause-crossings
returns-clause-crossings c = deep_crossings

pub returns-clause-walks : goal.returns-clause-walks
returns-clause-walks c = deep_walks
