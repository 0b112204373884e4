-- At each byte the value read so far is small, so that nothing is lost.
use Rattle.std.proofs.Common.{get_or, sym, ◌∙◌, arith}
use Rattle.std.proofs.lemmas.Bool.Decides.{nat_tests}
use Rattle.short_numbers.specs.Numbers.{IsNumber}
use Rattle.short_numbers.proofs.Reading.{number_of, number_none, value_small, no_digit, more_digits, more_value, digit_is, digit_small, read_all, none_short}
use Rattle.short_numbers.proofs.read_number.Goals as goal
use Rattle.short_numbers.proofs.read_number.Goals.{then-is_empty-via-then-is_empty, then-is_empty-via-else-is_empty+then-digits-gt-MOST_DIGITS}

pub returns-then-is_empty-clause-none : goal.returns-then-is_empty-clause-none
returns-then-is_empty-clause-none c = λ n. elim c.then-is_empty.branch [
  | then-is_empty-via-then-is_empty w ↦ none_short c.args.digits.now n (grind (arith, nat_tests))
  | then-is_empty-via-else-is_empty+then-digits-gt-MOST_DIGITS w ↦ λ (is : IsNumber c.args.digits.now n). omega (arith, is.short, w.if-digits-gt-MOST_DIGITS.true)
]

pub returns-then-is_empty-clause-value : goal.returns-then-is_empty-clause-value
returns-then-is_empty-clause-value c = number_none c.args.digits.now (returns-then-is_empty-clause-none c)

pub returns-then-not-is_ascii_digit-clause-none : goal.returns-then-not-is_ascii_digit-clause-none
returns-then-not-is_ascii_digit-clause-none c = λ n.
    no_digit c.args.digits.now c.loop-digit.digit-index n c.loop-digit-test.true (sym c.is_ascii_digit.ensures.value ∙ c.if-not-is_ascii_digit.true)

pub returns-then-not-is_ascii_digit-clause-value : goal.returns-then-not-is_ascii_digit-clause-value
returns-then-not-is_ascii_digit-clause-value c = number_none c.args.digits.now (returns-then-not-is_ascii_digit-clause-none c)

pub overflow_mul-value : goal.overflow_mul-value
overflow_mul-value c =
    let small = value_small c.args.digits.now c.loop-digit.digit-index (omega arith) c.loop-digit.invariant.digits in
    omega (arith, small, c.loop-digit.invariant.value)

pub overflow_add-value : goal.overflow_add-value
overflow_add-value c =
    let small = value_small c.args.digits.now c.loop-digit.digit-index (omega arith) c.loop-digit.invariant.digits in
    let byte = get_or c.args.digits.now c.loop-digit.digit-index 0 in
    let is_digit = sym c.is_ascii_digit.ensures.value ∙ c.if-not-is_ascii_digit.false in
    omega (arith, small, c.loop-digit.invariant.value, c.from.ensures, digit_is byte is_digit, digit_small byte is_digit)

pub loop-digit-preserved : goal.loop-digit-preserved
loop-digit-preserved c =
    let is_digit = sym c.is_ascii_digit.ensures.value ∙ c.if-not-is_ascii_digit.false in
    record {
      digits = more_digits c.args.digits.now c.loop-digit.digit-index c.loop-digit-test.true is_digit c.loop-digit.invariant.digits;
      value = more_value c.args.digits.now c.loop-digit.digit-index c.loop-digit.value c.from.result c.loop-digit-test.true is_digit c.loop-digit.invariant.value c.from.ensures;
    }

pub returns-clause-some : goal.returns-clause-some
returns-clause-some c = read_all c.args.digits.now c.loop-digit.digit-index c.loop-digit.value (grind (arith, nat_tests)) (omega arith) (omega arith) c.loop-digit.invariant.digits c.loop-digit.invariant.value

pub returns-clause-value : goal.returns-clause-value
returns-clause-value c = sym (number_of c.args.digits.now c.loop-digit.value (returns-clause-some c))
