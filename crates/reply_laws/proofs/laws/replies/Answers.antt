use Rattle.reply_laws.proofs.Together.{one_reply_over_tree}
use Rattle.reply_laws.proofs.Together.{one_reply_over_walks}
use Rattle.reply_laws.proofs.laws.replies.Goals as goal

pub returns-clause-over_walks : goal.returns-clause-over_walks
returns-clause-over_walks c = one_reply_over_walks

pub returns-clause-over_tree : goal.returns-clause-over_tree
returns-clause-over_tree c = one_reply_over_tree
