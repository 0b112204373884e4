-- What the members say.
use Rattle.std.proofs.Common.{◌≡◌, true, false, is_some, vec_items, sym, subst, arith, inl, inr, ◌⊎◌}
use Rattle.rules_file.specs.Parts.{HasCornerParts}
use Rattle.rules_file.specs.Taking.{value_at}
use Rattle.rules_file.proofs.Taking.{object_whole}
use Rattle.rules_file.proofs.Fitting.{corner_spelt, no_offsets, no_outer, no_rank}
use Rattle.rules_file.proofs.entry.CornerEntry.take.Goals as goal
use Rattle.rules_file.proofs.entry.CornerEntry.take.Goals.{in_default-via-in-Some+in_default, in_default-via-in_default, else-ranked-via-then-ranked+else-is_none, else-ranked-via-else-ranked}

pub returns-in_default-clause-passed : goal.returns-in_default-clause-passed
returns-in_default-clause-passed c = (object_whole c.args.depth _ _ _ (c.in_ok-opens_object.ensures.opens (grind arith)) c.in_ok-parts.ensures.passed).0

pub returns-in_default-clause-none : goal.returns-in_default-clause-none
returns-in_default-clause-none c =
    let all = object_whole c.args.depth _ _ _ (c.in_ok-opens_object.ensures.opens (grind arith)) c.in_ok-parts.ensures.passed in
    let p = c.in_ok-parts.parts in
    let parts : HasCornerParts vec_items (value_at c.args.depth c.args.reader.now) p.offsets p.outer p.rank =
    subst (λ d. HasCornerParts vec_items d p.offsets p.outer p.rank) (sym all.1) c.in_ok-parts.ensures.fits in
    λ x. elim c.in_default.branch [
      | in_default-via-in-Some+in_default w ↦ no_outer vec_items c.args.ranked _ p.offsets p.outer p.rank parts w.in_default.is-1 x
      | in_default-via-in_default w ↦ no_offsets vec_items c.args.ranked _ p.offsets p.outer p.rank parts w.in_default.is-0 x
    ]

pub returns-then-is_none-clause-passed : goal.returns-then-is_none-clause-passed
returns-then-is_none-clause-passed c = (object_whole c.args.depth _ _ _ (c.in_ok-opens_object.ensures.opens (grind arith)) c.in_ok-parts.ensures.passed).0

pub returns-then-is_none-clause-none : goal.returns-then-is_none-clause-none
returns-then-is_none-clause-none c =
    let all = object_whole c.args.depth _ _ _ (c.in_ok-opens_object.ensures.opens (grind arith)) c.in_ok-parts.ensures.passed in
    let p = c.in_ok-parts.parts in
    let parts : HasCornerParts vec_items (value_at c.args.depth c.args.reader.now) p.offsets p.outer p.rank =
    subst (λ d. HasCornerParts vec_items d p.offsets p.outer p.rank) (sym all.1) c.in_ok-parts.ensures.fits in
    λ x. no_rank vec_items c.args.ranked _ p.offsets p.outer p.rank parts c.if-ranked.true c.if-is_none.ensures x

pub returns-clause-passed : goal.returns-clause-passed
returns-clause-passed c = (object_whole c.args.depth _ _ _ (c.in_ok-opens_object.ensures.opens (grind arith)) c.in_ok-parts.ensures.passed).0

pub returns-clause-some : goal.returns-clause-some
returns-clause-some c =
    let all = object_whole c.args.depth _ _ _ (c.in_ok-opens_object.ensures.opens (grind arith)) c.in_ok-parts.ensures.passed in
    let p = c.in_ok-parts.parts in
    let parts : HasCornerParts vec_items (value_at c.args.depth c.args.reader.now) p.offsets p.outer p.rank =
    subst (λ d. HasCornerParts vec_items d p.offsets p.outer p.rank) (sym all.1) c.in_ok-parts.ensures.fits in
    let rank : (c.args.ranked ≡ false) ⊎ (is_some p.rank ≡ true) = elim c.else-ranked.branch [
      | else-ranked-via-then-ranked+else-is_none w ↦ inr w.if-is_none.ensures
      | else-ranked-via-else-ranked w ↦ inl w.if-ranked.false
    ] in
    corner_spelt vec_items c.args.ranked _ p.offsets p.outer p.rank parts _ _ c.in-Some-Some.is-0 c.in-Some-Some.is-1 rank
