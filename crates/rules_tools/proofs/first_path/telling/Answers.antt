use Rattle.std.proofs.Common.{◌↔◌, ℕ, List, sym, subst, IfOk, IfSome, IsNone}
use Rattle.tile_model.specs.Validity.{IsValid}
use Rattle.tree_model.specs.Conditions.{IsAccepted}
use Rattle.merge_model.specs.Telling.{TellsApart, IsFirstTelling}
use Rattle.rules_tools.proofs.first_path.telling.Goals as goal

pub find-requires-clause-valid : goal.find-requires-clause-valid
find-requires-clause-valid c = subst IsValid (sym c.tessellation.ensures.value) c.tessellation.ensures.sound.valid

pub find-requires-clause-accepted : goal.find-requires-clause-accepted
find-requires-clause-accepted c =
    subst (λ k. IsAccepted k c.automaton.result.now) (sym c.tessellation.ensures.value)
    (subst (IsAccepted c.args.r.now.kinds) (sym c.automaton.ensures.value) c.automaton.ensures.sound.accepted)

pub returns-clause-none : goal.returns-clause-none
returns-clause-none c =
    subst (λ k. IfOk c.find.result (λ o. IsNone o ↔ ((path : List ℕ) → ¬ (TellsApart k c.args.r.now.automaton c.args.a c.args.b path)))) c.tessellation.ensures.value
    (subst (λ x. IfOk c.find.result (λ o. IsNone o ↔ ((path : List ℕ) → ¬ (TellsApart c.tessellation.result.now x c.args.a c.args.b path)))) c.automaton.ensures.value c.find.ensures.none)

pub returns-clause-some : goal.returns-clause-some
returns-clause-some c =
    subst (λ k. IfOk c.find.result (λ o. IfSome o (IsFirstTelling k c.args.r.now.automaton c.args.a c.args.b))) c.tessellation.ensures.value
    (subst (λ x. IfOk c.find.result (λ o. IfSome o (IsFirstTelling c.tessellation.result.now x c.args.a c.args.b))) c.automaton.ensures.value c.find.ensures.some)
