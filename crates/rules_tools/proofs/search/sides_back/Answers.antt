use Rattle.std.proofs.Common.{◌<◌, ◌++◌, ◌∷◌, [], reverse, sym, ap, ◌∙◌, subst, arith}
use Rattle.std.proofs.lemmas.Bool.Decides.{nat_tests}
use Rattle.cell_names.specs.Name.{IsName}
use Rattle.rules_tools.specs.declared.pairs.Pair.{Pair}
use Rattle.rules_tools.specs.Pairs.{path_at}
use Rattle.rules_tools.proofs.Told.{step_back, turned_more, below_more}
use Rattle.rules_tools.proofs.search.sides_back.Goals as goal

pub loop-at-preserved : goal.loop-at-preserved
loop-at-preserved c = record {
  within =
      let low = (step_back c.args.tess.now c.args.a.now c.args.x.now.first c.args.x.now.second c.args.x.now.above.items c.args.x.now.queue.items c.args.entry 0 c.requires.searching c.loop-at.at some c.loop-at.invariant.within).0 in
      let is = ap (λ (p : Pair). p.from) c.pair-pair.ensures in
      omega (arith, low, is, c.loop-at.invariant.within);
  path = λ h.
      let e = (step_back c.args.tess.now c.args.a.now c.args.x.now.first c.args.x.now.second c.args.x.now.above.items c.args.x.now.queue.items c.args.entry 0 h c.loop-at.at some c.loop-at.invariant.within).1 in
      ap (λ l. path_at h.paths c.pair-pair.result.from ++ reverse l) c.in_ok-push.ensures.items
      ∙ turned_more (path_at h.paths c.pair-pair.result.from) c.loop-at.sides.items c.pair-pair.result.side
      ∙ ap (λ (p : Pair). (path_at h.paths p.from ++ p.side ∷ []) ++ reverse c.loop-at.sides.items) c.pair-pair.ensures
      ∙ ap (λ l. l ++ reverse c.loop-at.sides.items) (sym e)
      ∙ c.loop-at.invariant.path h;
  below =
      subst IsName (sym c.in_ok-push.ensures.items)
      (below_more c.loop-at.sides.items c.pair-pair.result.side c.loop-at.invariant.below
      (subst (λ (p : Pair). p.side < 64) (sym c.pair-pair.ensures) (c.requires.searching.small c.loop-at.at c.loop-at.invariant.within)));
}
  where
    some : 0 < c.loop-at.at
    some = grind (arith, nat_tests, c.loop-at-test.true)
