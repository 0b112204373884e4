-- What the members say.
use Rattle.std.proofs.Common.{vec_items, sym, subst, arith}
use Rattle.rules_file.specs.Parts.{HasStateParts}
use Rattle.rules_file.specs.Taking.{value_at}
use Rattle.rules_file.proofs.Taking.{object_whole}
use Rattle.rules_file.proofs.Fitting.{state_spelt, no_kind, no_off, no_rules, no_claims}
use Rattle.rules_file.proofs.entry.StateEntry.take.Goals as goal
use Rattle.rules_file.proofs.entry.StateEntry.take.Goals.{in_default-via-in-Some+in_default, in_default-via-in_default, in_default-2-via-in-Some+in_default, in_default-2-via-in_default}

pub returns-in_default-clause-passed : goal.returns-in_default-clause-passed
returns-in_default-clause-passed c = (object_whole c.args.depth _ _ _ (c.in_ok-opens_object.ensures.opens (grind arith)) c.in_ok-parts.ensures.passed).0

pub returns-in_default-clause-none : goal.returns-in_default-clause-none
returns-in_default-clause-none c =
    let all = object_whole c.args.depth _ _ _ (c.in_ok-opens_object.ensures.opens (grind arith)) c.in_ok-parts.ensures.passed in
    let p = c.in_ok-parts.parts in
    let parts : HasStateParts vec_items vec_items (value_at c.args.depth c.args.reader.now) p.kind p.off p.rules p.claims =
    subst (λ d. HasStateParts vec_items vec_items d p.kind p.off p.rules p.claims) (sym all.1) c.in_ok-parts.ensures.fits in
    λ x. elim c.in_default.branch [
      | in_default-via-in-Some+in_default w ↦ no_off vec_items vec_items _ p.kind p.off p.rules p.claims parts w.in_default.is-1 x
      | in_default-via-in_default w ↦ no_kind vec_items vec_items _ p.kind p.off p.rules p.claims parts w.in_default.is-0 x
    ]

pub returns-in_default-2-clause-passed : goal.returns-in_default-2-clause-passed
returns-in_default-2-clause-passed c = (object_whole c.args.depth _ _ _ (c.in_ok-opens_object.ensures.opens (grind arith)) c.in_ok-parts.ensures.passed).0

pub returns-in_default-2-clause-none : goal.returns-in_default-2-clause-none
returns-in_default-2-clause-none c =
    let all = object_whole c.args.depth _ _ _ (c.in_ok-opens_object.ensures.opens (grind arith)) c.in_ok-parts.ensures.passed in
    let p = c.in_ok-parts.parts in
    let parts : HasStateParts vec_items vec_items (value_at c.args.depth c.args.reader.now) p.kind p.off p.rules p.claims =
    subst (λ d. HasStateParts vec_items vec_items d p.kind p.off p.rules p.claims) (sym all.1) c.in_ok-parts.ensures.fits in
    λ x. elim c.in_default-2.branch [
      | in_default-2-via-in-Some+in_default w ↦ no_claims vec_items vec_items _ p.kind p.off p.rules p.claims parts w.in_default-2.is-1 x
      | in_default-2-via-in_default w ↦ no_rules vec_items vec_items _ p.kind p.off p.rules p.claims parts w.in_default-2.is-0 x
    ]

pub returns-clause-passed : goal.returns-clause-passed
returns-clause-passed c = (object_whole c.args.depth _ _ _ (c.in_ok-opens_object.ensures.opens (grind arith)) c.in_ok-parts.ensures.passed).0

pub returns-clause-some : goal.returns-clause-some
returns-clause-some c =
    let all = object_whole c.args.depth _ _ _ (c.in_ok-opens_object.ensures.opens (grind arith)) c.in_ok-parts.ensures.passed in
    let p = c.in_ok-parts.parts in
    let parts : HasStateParts vec_items vec_items (value_at c.args.depth c.args.reader.now) p.kind p.off p.rules p.claims =
    subst (λ d. HasStateParts vec_items vec_items d p.kind p.off p.rules p.claims) (sym all.1) c.in_ok-parts.ensures.fits in
    state_spelt vec_items vec_items _ p.kind p.off p.rules p.claims parts _ _ _ _ c.in-Some-Some.is-0 c.in-Some-Some.is-1 c.in-Some-Some-2.is-0 c.in-Some-Some-2.is-1
