-- One side after the other.
use Rattle.region_grower.proofs.Steps.{grown_same, grown_on}
use Rattle.region_grower.proofs.growth.make_round.Goals as goal

pub loop-side-init : goal.loop-side-init
loop-side-init c = record { growing = c.requires.growing; grown = grown_same c.args.joins.now c.requires.growing.table; level = λ n gone h. h; at_most = c.requires.made }

pub returns-in_err-make_side-clause-grown : goal.returns-in_err-make_side-clause-grown
returns-in_err-make_side-clause-grown c = grown_on c.args.joins.now c.loop-side.joins c.make_side.new.joins c.requires.growing.table c.loop-side.invariant.grown c.make_side.ensures.grown

pub loop-side-preserved : goal.loop-side-preserved
loop-side-preserved c = record {
  growing = c.make_side.ensures.growing;
  grown = grown_on c.args.joins.now c.loop-side.joins c.make_side.new.joins c.requires.growing.table c.loop-side.invariant.grown c.make_side.ensures.grown;
  level = λ n gone h. c.make_side.ensures.level n gone (c.loop-side.invariant.level n gone h);
  at_most = c.make_side.ensures.at_most;
}

pub returns-in_err-make_side-clause-level : goal.returns-in_err-make_side-clause-level
returns-in_err-make_side-clause-level c = λ n gone h. c.make_side.ensures.level n gone (c.loop-side.invariant.level n gone h)
