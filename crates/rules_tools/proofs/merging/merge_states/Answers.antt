use Rattle.std.proofs.Common.{sym, subst}
use Rattle.merge_model.specs.Merging.{AreClasses, IsMerged}
use Rattle.rules_tools.specs.Reducing.{AreOrdered}
use Rattle.rules_tools.proofs.merging.merge_states.Goals as goal

pub reduced-requires-clause-ordered : goal.reduced-requires-clause-ordered
reduced-requires-clause-ordered c = subst AreOrdered (sym c.deref.ensures.value) c.in_ok-class.ensures.1.ordered

pub returns : goal.returns
returns c =
    subst (λ xs. IsMerged c.args.tess.now c.args.a.now xs c.in_ok-automaton.automaton) c.deref.ensures.value
    (c.in_ok-automaton.ensures c.args.tess.now c.in_ok-class.ensures.0 c.requires (subst (λ xs. AreClasses c.args.tess.now c.args.a.now xs c.in_ok-class.ensures.0) (sym c.deref.ensures.value) c.in_ok-class.ensures.1))
