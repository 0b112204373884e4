use Rattle.reply_laws.proofs.Together.{interleavings_over_tree}
use Rattle.reply_laws.proofs.Together.{interleavings_over_walks}
use Rattle.reply_laws.proofs.laws.interleavings.Goals as goal

pub returns-clause-over_walks : goal.returns-clause-over_walks
returns-clause-over_walks c = interleavings_over_walks

pub returns-clause-over_tree : goal.returns-clause-over_tree
returns-clause-over_tree c = interleavings_over_tree
