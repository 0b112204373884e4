-- No more cells are live than were made.
use Rattle.std.proofs.Common.{arith}
use Rattle.region_grower.proofs.Growing.{live_made_at_most}
use Rattle.region_grower.proofs.growth.renamed.Goals as goal

pub overflow_sub-result : goal.overflow_sub-result
overflow_sub-result c = let most = live_made_at_most c.args.joins.now c.requires in omega (arith, most, c.made.ensures.value, c.live.ensures)

pub returns : goal.returns
returns c = let most = live_made_at_most c.args.joins.now c.requires in omega (arith, most, c.made.ensures.value, c.live.ensures)
