-- The corners are closed, and the radii are exact.
use Rattle.std.proofs.Common.{arith}
use Rattle.region_grower.proofs.Making.{growing_closed}
use Rattle.region_grower.proofs.Level.{level_closed}
use Rattle.region_grower.proofs.growth.settle.Goals as goal

pub correct-requires-clause-near : goal.correct-requires-clause-near
correct-requires-clause-near c = (growing_closed c.args.joins.now c.close_corners.new.joins c.args.radii.now c.args.within c.close_corners.ensures.table c.close_corners.ensures.moved c.requires.growing).near

pub level_until-level-requires-clause-no_fewer : goal.level_until-level-requires-clause-no_fewer
level_until-level-requires-clause-no_fewer c = (level_closed c.args.joins.now c.close_corners.new.joins c.requires.growing.table c.close_corners.ensures.table c.close_corners.ensures.moved c.args.radii.now c.args.whole c.args.gone c.requires.level).no_fewer

pub correct-requires-clause-level : goal.correct-requires-clause-level
correct-requires-clause-level c = c.level_until-level.ensures c.args.radii.now (level_closed c.args.joins.now c.close_corners.new.joins c.requires.growing.table c.close_corners.ensures.table c.close_corners.ensures.moved c.args.radii.now c.args.whole c.args.gone c.requires.level)

pub whole_until-requires-clause-whole : goal.whole_until-requires-clause-whole
whole_until-requires-clause-whole c = (level_closed c.args.joins.now c.close_corners.new.joins c.requires.growing.table c.close_corners.ensures.table c.close_corners.ensures.moved c.args.radii.now c.args.whole c.args.gone c.requires.level).whole

pub returns-clause-ready : goal.returns-clause-ready
returns-clause-ready c =
    let h = growing_closed c.args.joins.now c.close_corners.new.joins c.args.radii.now c.args.within c.close_corners.ensures.table c.close_corners.ensures.moved c.requires.growing in
    record {
      table = h.table;
      long = omega (arith, h.long, c.correct.auto.radii);
      measured = c.correct.ensures;
      corners = c.close_corners.ensures.closed;
      whole_corners = c.whole_until.ensures;
      within = h.within;
    }
