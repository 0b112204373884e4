use Rattle.std.proofs.Common.{List, ap, sym, arith}
use Rattle.regular_maker.specs.Automaton.{index_in}
use Rattle.regular_maker.specs.declared.symbol.Pair.{Pair}
use Rattle.regular_maker.proofs.Numbers.{index_few}
use Rattle.regular_maker.proofs.Growing.{with_old}
use Rattle.regular_maker.proofs.numbering.add.Goals as goal

pub returns-else-index_of-len : goal.returns-else-index_of-len
returns-else-index_of-len c =
    let few = index_few c.args.pairs.now.items c.args.pair in
    let same = ap (λ (xs : List Pair). index_in xs c.args.pair) c.deref.ensures.value in
    sym (with_old 0 c.args.pairs.now.items c.args.pair
    (omega (arith, few, same, c.index_of.ensures, c.if-index_of-len.false)))
