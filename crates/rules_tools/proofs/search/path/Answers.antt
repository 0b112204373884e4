use Rattle.std.proofs.Common.{sym, ◌∙◌, subst}
use Rattle.merge_model.specs.Telling.{IsFirstTelling}
use Rattle.rules_tools.proofs.Told.{first_tells}
use Rattle.rules_tools.proofs.search.path.Goals as goal

pub returns : goal.returns
returns c =
    let is = c.in_ok-rejoin.ensures.ok ∙ (c.deref.ensures.value ∙ (c.reverse.ensures.items ∙ c.in_ok-sides.ensures.path c.requires.searching)) in
    subst (IsFirstTelling c.args.tess.now c.args.a.now c.args.x.now.first c.args.x.now.second) (sym is)
    (first_tells c.args.tess.now c.args.a.now c.args.x.now.first c.args.x.now.second c.args.x.now.above.items c.args.x.now.queue.items c.args.entry 0 c.requires.searching c.requires.within c.requires.differ)
