use Rattle.tree_laws.proofs.Together.{walks_arrive}
use Rattle.tree_laws.proofs.laws.contours.Goals as goal

pub returns : goal.returns
returns c = record { arrive = walks_arrive }
