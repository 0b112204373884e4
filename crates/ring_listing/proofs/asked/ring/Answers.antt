use Rattle.std.proofs.Common.{◌≡◌, Err, inl, inr, ap, sym, subst, refl, arith, ⊎_elim}
use Rattle.std.specs.Prelude.{MatchResult}
use Rattle.ring_listing.specs.declared.fault.RingFault.TheVariants.{TooMany, Memory}
use Rattle.ring_listing.specs.Rings.{RingsAreCounted}
use Rattle.ring_listing.proofs.Counted.{listed}
use Rattle.ring_listing.proofs.Told.{told_big, told_memory}
use Rattle.ring_listing.proofs.asked.ring.Goals as goal

pub returns-in_err-names-clause-too_big : goal.returns-in_err-names-clause-too_big
returns-in_err-names-clause-too_big c = λ q e.
    let fault = told_big c.in_err-names.field-0.0 c.from_residual.result q c.from_residual.ensures.1 e in
    c.in_err-names.ensures.too_big q (ap Err fault)

pub returns-in_err-names-clause-many : goal.returns-in_err-names-clause-many
returns-in_err-names-clause-many c = λ n near h more.
    inr (told_memory c.in_err-names.field-0.0 c.from_residual.result (c.in_err-names.ensures.told n near h) c.from_residual.ensures.1)

pub returns-in_err-names-clause-listed : goal.returns-in_err-names-clause-listed
returns-in_err-names-clause-listed c = λ n near h few.
    let same = told_memory c.in_err-names.field-0.0 c.from_residual.result (c.in_err-names.ensures.told n near h) c.from_residual.ensures.1 in
    subst (λ x. MatchResult x (λ _. Unit {0}) (λ fault. fault ≡ Memory)) (sym same) refl

pub returns-then-names-gt-MOST_LISTED-clause-many : goal.returns-then-names-gt-MOST_LISTED-clause-many
returns-then-names-gt-MOST_LISTED-clause-many c = λ n near h more.
    inl (ap (λ x. Err (TooMany x)) (c.in_ok-names.ensures.told n near h))

pub returns-then-names-gt-MOST_LISTED-clause-listed : goal.returns-then-names-gt-MOST_LISTED-clause-listed
returns-then-names-gt-MOST_LISTED-clause-listed c = λ n near h few.
    let same = c.in_ok-names.ensures.told n near h in
    absurd (omega (arith, same, few))

pub returns-clause-few : goal.returns-clause-few
returns-clause-few c =
    let r = c.args.r.now in
    let same = listed r.kinds r.automaton c.args.kind c.args.d c.in_ok-names.names c.in_ok-of.field-0.rest c.in_ok-names.ensures.counted c.in_ok-of.ensures.names in
    omega (arith, same)

pub returns-clause-counted : goal.returns-clause-counted
returns-clause-counted c =
    let r = c.args.r.now in
    let same = listed r.kinds r.automaton c.args.kind c.args.d c.in_ok-names.names c.in_ok-of.field-0.rest c.in_ok-names.ensures.counted c.in_ok-of.ensures.names in
    subst (RingsAreCounted r.kinds r.automaton c.args.kind c.args.d) (sym same) c.in_ok-names.ensures.counted

pub returns-clause-big : goal.returns-clause-big
returns-clause-big c = λ q near h.
    absurd (⊎_elim (λ e. absurd (cc e)) (λ e. absurd (cc e)) (c.in_ok-names.ensures.big q near h))

pub returns-clause-many : goal.returns-clause-many
returns-clause-many c = λ n near h more.
    let same = c.in_ok-names.ensures.told n near h in
    absurd (omega (arith, same, more))
