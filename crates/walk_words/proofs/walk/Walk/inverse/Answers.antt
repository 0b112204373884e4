-- The opposite letters are all written, and then reversed.
use Rattle.std.proofs.Common.{[], ◌++◌, reverse, ap, subst, sym, ◌∙◌}
use Rattle.tile_model.specs.Walks.{opposite, inverse}
use Rattle.tile_model.specs.Relation.{AreRelated}
use Rattle.tile_model.proofs.Inverses.{inverse_cancels}
use Rattle.walk_words.proofs.Ended.{all_written}
use Rattle.walk_words.proofs.WayBack.{reversed_opposites}
use Rattle.walk_words.proofs.walk.Walk.inverse.Goals as goal

pub returns-clause-value : goal.returns-clause-value
returns-clause-value c =
    let written = all_written opposite c.loop-x.letters.items c.deref-x-items.result.now c.loop-x.x-index c.loop-x-test.false c.loop-x.invariant in
    c.reverse.ensures.items ∙ (ap reverse written ∙ (reversed_opposites c.deref-x-items.result.now ∙ ap inverse (c.deref-x-items.ensures.value ∙ c.self.view_is)))

pub returns-clause-cancels : goal.returns-clause-cancels
returns-clause-cancels c = λ kinds d. subst (λ w. AreRelated kinds d (c.args.self.now ++ w) []) (sym (returns-clause-value c)) (inverse_cancels kinds d c.args.self.now)
