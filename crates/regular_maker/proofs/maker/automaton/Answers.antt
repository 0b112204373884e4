use Rattle.std.proofs.Common.{◌≡◌, ◌<◌, List, length, get_or, arith, sym, ap, subst, ◌∙◌}
use Rattle.std.proofs.lemmas.List.{get_or_default}
use Rattle.regular_maker.specs.Pairs.{IsPair}
use Rattle.regular_maker.specs.States.{first_pair}
use Rattle.regular_maker.specs.Automaton.{pair_at, all_pairs, all_states}
use Rattle.regular_maker.specs.declared.symbol.Pair.{Pair}
use Rattle.regular_maker.proofs.Shapes.{shape_of}
use Rattle.regular_maker.proofs.AllPairs.{all_few, all_list}
use Rattle.regular_maker.proofs.maker.automaton.Goals as goal

pub all_states-requires-clause-few : goal.all_states-requires-clause-few
all_states-requires-clause-few c =
    let few = all_few c.args.symbol.p c.args.symbol.q
    (shape_of c.args.symbol.p c.args.symbol.q c.requires.symbol) in
    let same = c.deref.ensures.value ∙ c.in_ok-pairs.ensures in
    omega (arith, ap length same, few)

pub all_states-requires-clause-pairs : goal.all_states-requires-clause-pairs
unfolding pair_at
all_states-requires-clause-pairs c = λ k d h.
    let p = c.args.symbol.p in
    let q = c.args.symbol.q in
    let same : c.deref.result.now ≡ all_pairs p q = c.deref.ensures.value ∙ c.in_ok-pairs.ensures in
    let within : k < length (all_pairs p q) = omega (arith, ap length same, h) in
    let there = (all_list p q (shape_of p q c.requires.symbol)).pairs k within in
    let e : get_or c.deref.result.now k d ≡ get_or (all_pairs p q) k (first_pair q)
    = ap (λ (xs : List Pair). get_or xs k d) same
    ∙ get_or_default (all_pairs p q) k d (first_pair q) within in
    subst (IsPair p q) (sym e) there

pub returns : goal.returns
returns c =
    let p = c.args.symbol.p in
    let q = c.args.symbol.q in
    let same : c.deref.result.now ≡ all_pairs p q = c.deref.ensures.value ∙ c.in_ok-pairs.ensures in
    let states = c.in_ok-all_states.ensures ∙ ap (all_states p q) same in
    λ i. record {
      states = states i;
      corners = c.in_ok-corner_types.ensures i;
      roots = c.in_ok-vec.ensures.items i;
    }
