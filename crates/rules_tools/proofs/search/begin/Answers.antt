use Rattle.std.proofs.Common.{◌≤◌, ◌∷◌, [], length, refl, sym, ap, ◌∙◌, subst, arith}
use Rattle.rules_tools.specs.declared.pairs.Pair.{Pair}
use Rattle.rules_tools.specs.Joined.{Linked, here, there, AreLinks, set_count}
use Rattle.rules_tools.specs.Pairs.{IsPair, IsGoneThrough}
use Rattle.rules_tools.proofs.Joining.{alone_links, alone_long, alone_count, count_most}
use Rattle.rules_tools.proofs.Growing.{begun}
use Rattle.rules_tools.proofs.search.begin.Goals as goal

pub returns-clause-searching : goal.returns-clause-searching
returns-clause-searching c =
    subst (λ us. IsGoneThrough c.args.tess.now c.args.a.now c.args.first c.args.second c.join.new.above.items us 0 0) (sym c.in_ok-queue_of.ensures)
    (begun c.args.tess.now c.args.a.now c.requires.accepted c.args.first c.args.second c.requires.first c.requires.second c.join.new.above.items pair refl refl
    (c.join.ensures.long ∙ ap length c.in_ok-above.ensures ∙ alone_long c.count.result ∙ c.count.ensures)
    c.join.ensures.falling
    (c.join.ensures.joined (pair ∷ []) (subst (AreLinks (IsPair (pair ∷ []))) (sym c.in_ok-above.ensures) (alone_links (IsPair (pair ∷ [])) c.count.result)) linked)
    few (omega arith))
  where
    pair : Pair
    pair = record { first = c.args.first; second = c.args.second; from = 0; side = 0 }

    linked : Linked (IsPair (pair ∷ [])) c.args.first c.args.second
    linked = there c.args.second (record { entry = 0; within = omega arith; first = refl; second = refl }) (here refl)

    few : set_count c.join.new.above.items ≤ length c.args.a.now.states
    few =
        let most = count_most c.join.result (set_count c.join.new.above.items) (set_count c.in_ok-above.above.items) c.join.ensures.count c.join.ensures.same_count in
        let all = ap set_count c.in_ok-above.ensures ∙ alone_count c.count.result in
        omega (arith, most, all, c.count.ensures)
