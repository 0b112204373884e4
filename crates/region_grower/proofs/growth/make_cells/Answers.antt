-- One cell after the other.
use Rattle.std.proofs.Common.{arith}
use Rattle.region_grower.proofs.Steps.{grown_on, grown_longer}
use Rattle.region_grower.proofs.growth.make_cells.Goals as goal

pub returns-in_err-make_round-clause-grown : goal.returns-in_err-make_round-clause-grown
returns-in_err-make_round-clause-grown c = grown_on c.args.joins.now c.loop-cell.joins c.make_round.new.joins c.requires.growing.table c.loop-cell.invariant.grown c.make_round.ensures.grown

pub loop-cell-preserved : goal.loop-cell-preserved
loop-cell-preserved c =
    let longer = grown_longer c.loop-cell.joins c.make_round.new.joins c.make_round.ensures.grown in
    record {
      growing = c.make_round.ensures.growing;
      grown = grown_on c.args.joins.now c.loop-cell.joins c.make_round.new.joins c.requires.growing.table c.loop-cell.invariant.grown c.make_round.ensures.grown;
      level = λ n gone h. c.make_round.ensures.level n gone (c.loop-cell.invariant.level n gone h);
      at_most = c.make_round.ensures.at_most;
      more = omega (arith, c.loop-cell.invariant.more, longer);
    }

pub returns-in_err-make_round-clause-level : goal.returns-in_err-make_round-clause-level
returns-in_err-make_round-clause-level c = λ n gone h. c.make_round.ensures.level n gone (c.loop-cell.invariant.level n gone h)
