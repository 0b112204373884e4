use Rattle.std.proofs.Common.{arith}
use Rattle.regular_maker.proofs.Numbers.{index_few}
use Rattle.regular_maker.proofs.states.pair_rule.Goals as goal

pub overflow_cast-result : goal.overflow_cast-result
overflow_cast-result c
    = omega (
      arith,
      index_few c.args.pairs.now c.child_pair.result,
      c.index_of.ensures,
      c.requires.few,
    )

pub overflow_add-result : goal.overflow_add-result
overflow_add-result c
    = omega (
      arith,
      index_few c.args.pairs.now c.child_pair.result,
      c.index_of.ensures,
      c.requires.few,
    )
