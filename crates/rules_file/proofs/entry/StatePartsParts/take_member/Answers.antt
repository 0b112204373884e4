-- One part is what the member says, and the others stay.
use Rattle.std.proofs.Common.{vec_items, sym}
use Rattle.rules_file.specs.Spelling.{SpellsArray, SpellsByte, SpellsPair, SpellsRule}
use Rattle.rules_file.specs.Taking.{value_at}
use Rattle.rules_file.proofs.Kept.{spelt_of, state_kind, state_off, state_rules, state_claims, state_other, on_ok}
use Rattle.rules_file.proofs.entry.StatePartsParts.take_member.Goals as goal

pub returns-in_ok-self-in-kind-clause-kept : goal.returns-in_ok-self-in-kind-clause-kept
returns-in_ok-self-in-kind-clause-kept c =
    let says = c.in_ok-self-in-kind.ensures in
    λ ms. state_kind vec_items vec_items _ c.args.name.now ms _ _ _ _ _ c.in-kind.is (spelt_of (λ x. x) SpellsByte (value_at c.args.depth c.args.reader.now) _ says.some says.none)

pub returns-in_ok-self-in-off-clause-kept : goal.returns-in_ok-self-in-off-clause-kept
returns-in_ok-self-in-off-clause-kept c =
    let says = c.in_ok-self-in-off.ensures in
    λ ms. state_off vec_items vec_items _ c.args.name.now ms _ _ _ _ _ c.in-off.is (spelt_of (λ x. x) SpellsByte (value_at c.args.depth c.args.reader.now) _ says.some says.none)

pub returns-in_ok-self-in-rules-clause-kept : goal.returns-in_ok-self-in-rules-clause-kept
returns-in_ok-self-in-rules-clause-kept c =
    let says = c.in_ok-self-in-rules.ensures in
    λ ms. state_rules vec_items vec_items _ c.args.name.now ms _ _ _ _ _ c.in-rules.is (spelt_of vec_items (SpellsArray SpellsRule) (value_at c.args.depth c.args.reader.now) _ says.some says.none)

pub returns-in_ok-self-in-claims-clause-kept : goal.returns-in_ok-self-in-claims-clause-kept
returns-in_ok-self-in-claims-clause-kept c =
    let says = c.in_ok-self-in-claims.ensures in
    λ ms. state_claims vec_items vec_items _ c.args.name.now ms _ _ _ _ _ c.in-claims.is (spelt_of vec_items (SpellsArray SpellsPair) (value_at c.args.depth c.args.reader.now) _ says.some says.none)

pub returns-in_default-clause-kept : goal.returns-in_default-clause-kept
returns-in_default-clause-kept c =
    let no = c.in_default in
    on_ok c.pass.result (λ ms. state_other vec_items vec_items _ c.args.name.now ms _ _ _ _
    (λ e. no.not-kind (sym e)) (λ e. no.not-off (sym e)) (λ e. no.not-rules (sym e)) (λ e. no.not-claims (sym e)))
