-- What is joined there is a dart of a live cell.
use Rattle.std.proofs.Common.{sym, ◌∙◌}
use Rattle.region_grower.proofs.Ways.{over_dart}
use Rattle.region_grower.proofs.corners.back.Goals as goal

pub right-at-requires : goal.right-at-requires
right-at-requires c = over_dart c.args.joins.now c.requires.table c.loop-time.at c.in-Some.over (sym c.joined.ensures.value ∙ c.in-Some.is)
