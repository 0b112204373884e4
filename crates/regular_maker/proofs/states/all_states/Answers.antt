use Rattle.std.proofs.Common.{◌≡◌, suc, ◌+◌, ◌<◌, List, [], ◌∷◌, ◌++◌, length, ap, ap₂, ◌∙◌, arith}
use Rattle.std.proofs.lemmas.List.{get_or_default}
use Rattle.tree_model.specs.Automata.{TreeState}
use Rattle.regular_maker.specs.Corners.{listed}
use Rattle.regular_maker.specs.States.{first_pair}
use Rattle.regular_maker.specs.Automaton.{root_state, nth_state, pair_state, pair_at}
use Rattle.regular_maker.proofs.states.all_states.Goals as goal

pub loop-n-preserved : goal.loop-n-preserved
unfolding nth_state pair_at
loop-n-preserved c =
    let p = c.args.symbol.p in
    let q = c.args.symbol.q in
    let pairs = c.args.pairs.now in
    let less : c.loop-n.n < length pairs = omega arith in
    let made = c.in_ok-pair_state.ensures in
    let step : suc c.loop-n.n ≡ c.loop-n.n + 1 = omega arith in
    let state : c.in_ok-pair_state.field-0 ≡ nth_state p q pairs c.loop-n.n
    = made ∙ ap (pair_state p q pairs) (get_or_default pairs c.loop-n.n _ (first_pair q) less) in
    c.in_ok-push.ensures.items
    ∙ ap₂ (λ (xs : List TreeState) (x : TreeState). xs ++ x ∷ []) c.loop-n.invariant state
    ∙ ap (λ m. root_state p q ∷ listed (nth_state p q pairs) m) step
