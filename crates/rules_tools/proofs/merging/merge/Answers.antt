use Rattle.std.proofs.Common.{sym, subst}
use Rattle.tile_model.specs.Validity.{IsValid}
use Rattle.tree_model.specs.Conditions.{IsAccepted}
use Rattle.merge_model.specs.Merging.{IsMerged}
use Rattle.merge_laws.proofs.Conditions.{merged_accepted}
use Rattle.rules_tools.proofs.merging.merge.Goals as goal

pub merge_states-requires : goal.merge_states-requires
merge_states-requires c =
    subst (λ k. IsAccepted k c.automaton.result.now) (sym c.tessellation-tess.ensures.value)
    (subst (IsAccepted c.args.r.now.kinds) (sym c.automaton.ensures.value) c.automaton.ensures.sound.accepted)

pub of_accepted-requires : goal.of_accepted-requires
of_accepted-requires c =
    let ok = subst (λ k. IsAccepted k c.automaton.result.now) (sym c.tessellation-tess.ensures.value)
    (subst (IsAccepted c.args.r.now.kinds) (sym c.automaton.ensures.value) c.automaton.ensures.sound.accepted) in
    let valid = subst IsValid (sym c.tessellation-tess.ensures.value) c.tessellation-tess.ensures.sound.valid in
    subst (λ k. IsAccepted k c.in_ok-automaton.automaton) (sym c.in_ok-copy.ensures)
    (merged_accepted c.tessellation-tess.result.now c.automaton.result.now c.in_ok-automaton.class.items c.in_ok-automaton.automaton valid ok c.in_ok-automaton.ensures)

pub returns-clause-merged : goal.returns-clause-merged
returns-clause-merged c =
    subst (IsMerged c.args.r.now.kinds c.args.r.now.automaton c.in_ok-automaton.class.items) (sym c.of_accepted.ensures.automaton)
    (subst (λ k. IsMerged k c.args.r.now.automaton c.in_ok-automaton.class.items c.in_ok-automaton.automaton) c.tessellation-tess.ensures.value
    (subst (λ x. IsMerged c.tessellation-tess.result.now x c.in_ok-automaton.class.items c.in_ok-automaton.automaton) c.automaton.ensures.value c.in_ok-automaton.ensures))
