use Rattle.same_replies.proofs.Replies.{tree_replies, walk_replies, merged_replies}
use Rattle.same_replies.proofs.laws.replies.Goals as goal

pub returns-clause-over_tree : goal.returns-clause-over_tree
returns-clause-over_tree c = tree_replies

pub returns-clause-over_walks : goal.returns-clause-over_walks
returns-clause-over_walks c = walk_replies

pub returns-clause-merged : goal.returns-clause-merged
returns-clause-merged c = merged_replies
