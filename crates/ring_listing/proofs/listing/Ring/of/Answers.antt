use Rattle.std.proofs.Common.{sym, subst}
use Rattle.tree_model.specs.Names.{IsRing}
use Rattle.tree_model.proofs.Rings.{ring_is}
use Rattle.ring_listing.proofs.listing.Ring.of.Goals as goal

pub returns-clause-names : goal.returns-clause-names
returns-clause-names c =
    let r = c.args.r.now in
    subst (IsRing r.kinds r.automaton c.args.kind c.args.d) (sym c.in_ok-start.ensures.all) (ring_is r.kinds r.automaton c.args.kind c.args.d)
