use Rattle.tree_laws.proofs.Together.{weight_stays, weight_falls, weight_bounded}
use Rattle.tree_laws.proofs.laws.weights.Goals as goal

pub returns-clause-stays : goal.returns-clause-stays
returns-clause-stays c = weight_stays

pub returns-clause-falls : goal.returns-clause-falls
returns-clause-falls c = weight_falls

pub returns-clause-bounded : goal.returns-clause-bounded
returns-clause-bounded c = weight_bounded
