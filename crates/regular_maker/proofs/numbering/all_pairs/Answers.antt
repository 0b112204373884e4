use Rattle.std.proofs.Common.{◌≡◌, ◌<◌, ◌≤◌, ◌+◌, suc, List, [], ◌∷◌, length, get_or, arith, sym, ap, ap₂, subst, ◌∙◌}
use Rattle.std.proofs.lemmas.List.{get_or_read}
use Rattle.regular_maker.specs.Pairs.{IsPair}
use Rattle.regular_maker.specs.States.{first_pair}
use Rattle.regular_maker.specs.Automaton.{pairs_met, pair_at}
use Rattle.regular_maker.specs.declared.symbol.Pair.{Pair}
use Rattle.regular_maker.proofs.Shapes.{shape_of}
use Rattle.regular_maker.proofs.Growing.{pairs_met_at, met_list, met_more, at_grows}
use Rattle.regular_maker.proofs.AllPairs.{first_met, met_few, all_met}
use Rattle.regular_maker.proofs.numbering.all_pairs.Goals as goal

pub loop-next-init : goal.loop-next-init
loop-next-init c =
    let shape = shape_of c.args.symbol.p c.args.symbol.q c.requires.symbol in
    let start : c.in_ok-pairs.pairs.items ≡ pairs_met c.args.symbol.p c.args.symbol.q 0
    = c.in_ok-pairs.ensures.items ∙ ap (λ (x : Pair). x ∷ []) c.first_pair.ensures
    ∙ sym (first_met c.args.symbol.p c.args.symbol.q shape) in
    (start, omega arith)

pub meet-requires-clause-pair : goal.meet-requires-clause-pair
unfolding pair_at
meet-requires-clause-pair c =
    let p = c.args.symbol.p in
    let q = c.args.symbol.q in
    let next = c.loop-next.next in
    let known = c.loop-next.invariant.0 in
    let less : next < length c.loop-next.pairs.items = omega arith in
    let read = get_or_read c.loop-next.pairs.items next c.index-pair.result.now less c.index-pair.ensures (first_pair q) in
    let there = (met_list p q (shape_of p q c.requires.symbol) next).pairs next
    (omega (arith, ap length known, less)) in
    subst (IsPair p q) (sym
    (read ∙ ap (λ (xs : List Pair). get_or xs next (first_pair q)) known)) there

pub loop-next-smaller : goal.loop-next-smaller
loop-next-smaller c =
    let few = met_few c.args.symbol.p c.args.symbol.q
    (shape_of c.args.symbol.p c.args.symbol.q c.requires.symbol) c.loop-next.next in
    let less : c.loop-next.next < length c.loop-next.pairs.items = omega arith in
    omega (arith, ap length c.loop-next.invariant.0, less, few)

pub loop-next-preserved : goal.loop-next-preserved
unfolding pair_at
loop-next-preserved c =
    let p = c.args.symbol.p in
    let q = c.args.symbol.q in
    let next = c.loop-next.next in
    let known = c.loop-next.invariant.0 in
    let less : next < length c.loop-next.pairs.items = omega arith in
    let within : next < length (pairs_met p q next) = omega (arith, ap length known, less) in
    let read = get_or_read c.loop-next.pairs.items next c.index-pair.result.now less c.index-pair.ensures (first_pair q) in
    let same : c.index-pair.result.now ≡ pair_at q (pairs_met p q next) next = read
    ∙ ap (λ (xs : List Pair). get_or xs next (first_pair q)) known in
    let shape = shape_of p q c.requires.symbol in
    let made : c.meet.new.pairs.items
    ≡ pairs_met_at p q (pairs_met p q next) (pair_at q (pairs_met p q next) next) p
    = c.in_ok-meet.ensures
    ∙ ap₂ (λ (xs : List Pair) (x : Pair). pairs_met_at p q xs x p) known same in
    let grown = (at_grows p q (pairs_met p q next)
    (pair_at q (pairs_met p q next) next) p).longer in
    let e : suc next ≡ next + 1 = omega arith in (
      made ∙ sym (met_more p q shape next within)
          ∙ ap (pairs_met p q) e,
      omega (arith, ap length made, grown, within),
    )

pub returns : goal.returns
returns c =
    let p = c.args.symbol.p in
    let q = c.args.symbol.q in
    let shape = shape_of p q c.requires.symbol in
    let known = c.loop-next.invariant.0 in
    let long = ap length known in
    let few = met_few p q shape c.loop-next.next in
    let ended : length c.loop-next.pairs.items ≤ c.loop-next.next = omega arith in
    known ∙ sym (all_met p q shape c.loop-next.next (omega (arith, long, ended))
    (omega (arith, long, few, c.loop-next.invariant.1)))
