use Rattle.std.proofs.Common.{ℕ, ◌+◌, List, ◌∷◌, sym, ◌∙◌, ap, arith}
use Rattle.cell_names.proofs.Digits.{decimal-one, decimal-two, no_side, lone_digit, zero_digit, two_digits}
use Rattle.cell_names.proofs.text.take_side.Goals as goal

pub returns-in_err-tens-clause-complete : goal.returns-in_err-tens-clause-complete
returns-in_err-tens-clause-complete c = λ side tail small is none.
    absurd (no_side _ side tail c.in_err-tens.ensures.none small is)

pub returns-then-tens-eq0-clause-split : goal.returns-then-tens-eq0-clause-split
returns-then-tens-eq0-clause-split c =
    c.in_ok-tens.ensures.split
    ∙ ap (λ (n : ℕ). (48 + n) ∷ c.in_ok-tens.behind_tens.now) c.if-tens-eq0.true
    ∙ sym (decimal-one 0 c.in_ok-tens.behind_tens.now (omega arith))

pub returns-then-tens-eq0-clause-complete : goal.returns-then-tens-eq0-clause-complete
returns-then-tens-eq0-clause-complete c = λ side tail small is none.
    zero_digit _ side tail small (sym (ap (λ (n : ℕ). (48 + n) ∷ c.in_ok-tens.behind_tens.now) c.if-tens-eq0.true) ∙ sym c.in_ok-tens.ensures.split ∙ is)

pub returns-in_default-clause-split : goal.returns-in_default-clause-split
returns-in_default-clause-split c =
    c.in_ok-tens.ensures.split ∙ sym (decimal-one c.in_ok-tens.tens _ c.in_ok-tens.ensures.below)

pub returns-in_default-clause-complete : goal.returns-in_default-clause-complete
returns-in_default-clause-complete c = λ side tail small is none.
    lone_digit c.in_ok-tens.tens _ side tail c.in_ok-tens.ensures.below c.in_default.ensures.none small (sym c.in_ok-tens.ensures.split ∙ is)

pub returns-then-side-ge64-clause-complete : goal.returns-then-side-ge64-clause-complete
returns-then-side-ge64-clause-complete c = λ side tail small is none.
    let same = two_digits c.in_ok-tens.tens c.in-Some.units _ side tail c.in_ok-tens.ensures.below c.in-Some.ensures.below none small (ap (λ (l : List ℕ). (48 + c.in_ok-tens.tens) ∷ l) (sym c.in-Some.ensures.split) ∙ sym c.in_ok-tens.ensures.split ∙ is) in
    omega (arith, same.0, c.if-side-ge64.true)

pub returns-clause-split : goal.returns-clause-split
returns-clause-split c =
    c.in_ok-tens.ensures.split
    ∙ ap (λ (l : List ℕ). (48 + c.in_ok-tens.tens) ∷ l) c.in-Some.ensures.split
    ∙ sym (decimal-two c.in_ok-tens.tens c.in-Some.units c.in-Some.behind_units.now (omega (arith, c.if-tens-eq0.false)) c.in_ok-tens.ensures.below c.in-Some.ensures.below)

pub returns-clause-complete : goal.returns-clause-complete
returns-clause-complete c = λ side tail small is none.
    two_digits c.in_ok-tens.tens c.in-Some.units c.in-Some.behind_units.now side tail c.in_ok-tens.ensures.below c.in-Some.ensures.below none small (ap (λ (l : List ℕ). (48 + c.in_ok-tens.tens) ∷ l) (sym c.in-Some.ensures.split) ∙ sym c.in_ok-tens.ensures.split ∙ is)
