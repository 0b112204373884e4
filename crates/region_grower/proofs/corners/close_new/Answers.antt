-- Pass after pass.
use Rattle.region_grower.proofs.Left.{closed_on_same, closed_on_both}
use Rattle.region_grower.proofs.corners.close_new.Goals as goal

pub loop-init : goal.loop-init
loop-init c = record { table = c.requires; moved = closed_on_same c.args.joins.now c.requires }

pub loop-preserved : goal.loop-preserved
loop-preserved c = record {
  table = c.close_round.ensures.table;
  moved = closed_on_both c.args.joins.now c.loop.joins c.close_round.new.joins c.requires c.loop.invariant.moved c.close_round.ensures.moved;
}

pub returns-clause-moved : goal.returns-clause-moved
returns-clause-moved c = closed_on_both c.args.joins.now c.loop.joins c.close_round.new.joins c.requires c.loop.invariant.moved c.close_round.ensures.moved
