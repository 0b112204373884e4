-- One part is what the member says, and the others stay.
use Rattle.std.proofs.Common.{vec_items, sym}
use Rattle.rules_file.specs.Spelling.{SpellsArray, SpellsOffset, SpellsPair, SpellsWord}
use Rattle.rules_file.specs.Taking.{value_at}
use Rattle.rules_file.proofs.Kept.{spelt_of, corner_h, corner_outer, corner_rank, corner_other, on_ok}
use Rattle.rules_file.proofs.entry.CornerPartsParts.take_member.Goals as goal

pub returns-in_ok-self-in-h-clause-kept : goal.returns-in_ok-self-in-h-clause-kept
returns-in_ok-self-in-h-clause-kept c =
    let says = c.in_ok-self-in-h.ensures in
    λ ms. corner_h vec_items _ c.args.name.now ms _ _ _ _ c.in-h.is (spelt_of vec_items (SpellsArray SpellsOffset) (value_at c.args.depth c.args.reader.now) _ says.some says.none)

pub returns-in_ok-self-in-outer-clause-kept : goal.returns-in_ok-self-in-outer-clause-kept
returns-in_ok-self-in-outer-clause-kept c =
    let says = c.in_ok-self-in-outer.ensures in
    λ ms. corner_outer vec_items _ c.args.name.now ms _ _ _ _ c.in-outer.is (spelt_of (λ x. x) SpellsPair (value_at c.args.depth c.args.reader.now) _ says.some says.none)

pub returns-in_ok-self-in-rank-clause-kept : goal.returns-in_ok-self-in-rank-clause-kept
returns-in_ok-self-in-rank-clause-kept c =
    let says = c.in_ok-self-in-rank.ensures in
    λ ms. corner_rank vec_items _ c.args.name.now ms _ _ _ _ c.in-rank.is (spelt_of (λ x. x) SpellsWord (value_at c.args.depth c.args.reader.now) _ says.some says.none)

pub returns-in_default-clause-kept : goal.returns-in_default-clause-kept
returns-in_default-clause-kept c =
    let no = c.in_default in
    on_ok c.pass.result (λ ms. corner_other vec_items _ c.args.name.now ms _ _ _ (λ e. no.not-h (sym e)) (λ e. no.not-outer (sym e)) (λ e. no.not-rank (sym e)))
