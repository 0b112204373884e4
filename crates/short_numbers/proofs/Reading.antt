-- Reading a number digit by digit, and its two definitions, which are one.
use Rattle.std.proofs.Common.{◌≡◌, ℕ, ◌+◌, ◌*◌, ◌-◌, ◌<◌, ◌≤◌, ◌^◌, true, false, inl, inr, List, length, take, get_or, refl, sym, ◌∙◌, ap, subst, arith, length-take, None, Some}
use Rattle.std.specs.Prelude.{Option}
use Rattle.std.specs.Char.{digit_value, is_ascii_digit}
use Rattle.std.specs.Str.{all_ascii_digits}
use Rattle.std.specs.Str.Parse.{AllDigits, digits_value}
use Rattle.std.proofs.lemmas.List.{take_all}
use Rattle.std.proofs.lemmas.Bool.{cases_Bool}
use Rattle.std.proofs.lemmas.Bool.Decides.{nat_tests}
use Rattle.std.proofs.lemmas.Str.{digit_value_digit}
use Rattle.std.proofs.lemmas.Str.Parse.{IsNumeralModel, numerals_by_value, tells_digits, tells_all_ascii_digits, digits_value_short, digit_at}
use Rattle.std.proofs.lemmas.Int.Digits.{digits_more, digits_value_more}
use Rattle.short_numbers.specs.Numbers.{IsNumber, is_number, number}

by_test : IsNumeralModel (λ (ds : List ℕ). all_ascii_digits ds ≡ true) (digits_value 10)
by_test = numerals_by_value _ tells_all_ascii_digits

by_digits : IsNumeralModel (AllDigits 10) (digits_value 10)
by_digits = numerals_by_value _ tells_digits

-- a number passes the test, and what passes it is one
pub number_of : (digits : List ℕ) (n : ℕ) → IsNumber digits n → number digits ≡ Some n
unfolding number
number_of digits n is =
    let all : all_ascii_digits digits ≡ true = by_test.from digits is.numeral.1 in
    let some : 0 < length digits = is.numeral.0 in
    let short : length digits ≤ 9 = is.short in
    let test : is_number digits ≡ true = grind (arith, nat_tests) in
    rw (test, is.value) refl

is_of : (digits : List ℕ) (n : ℕ) → is_number digits ≡ true → digits_value 10 digits ≡ n → IsNumber digits n
is_of digits n test value =
    let some : 0 < length digits = grind (arith, nat_tests) in
    let short : length digits ≤ 9 = grind (arith, nat_tests) in
    let all : all_ascii_digits digits ≡ true = grind (arith, nat_tests) in
    record { numeral = (some, by_test.to digits all); short = short; value = value }

pub of_number : (digits : List ℕ) (n : ℕ) → number digits ≡ Some n → IsNumber digits n
unfolding number
of_number digits n is = elim (cases_Bool (is_number digits)) [
  | inl holds ↦
      let told : Some (digits_value 10 digits) ≡ Some n = rw holds at is in
      is_of digits n holds (cc)
  | inr fails ↦ let none : None ≡ Some n = rw fails at is in absurd (cc)
]

-- bytes that write no number
pub number_none : (digits : List ℕ) → ((n : ℕ) → ¬ (IsNumber digits n)) → None ≡ number digits
number_none digits none = go (number digits) refl
  where
    go : (o : Option ℕ) → number digits ≡ o → None ≡ o
    go None e = refl
    go (Some n) e = absurd (none n (of_number digits n e))

-- a digit, by its test and by its value
pub digit_is : (byte : ℕ) → is_ascii_digit byte ≡ true → digit_value byte + 48 ≡ byte
digit_is byte test =
    let low : 48 ≤ byte = grind (arith, nat_tests) in
    let high : byte ≤ 57 = grind (arith, nat_tests) in
    digit_value_digit byte (low, high)

pub digit_small : (byte : ℕ) → is_ascii_digit byte ≡ true → digit_value byte < 10
digit_small byte test =
    let high : byte ≤ 57 = grind (arith, nat_tests) in
    omega (arith, digit_is byte test)

-- eight digits write less than 10^8, so one digit more is no overflow
pub value_small : (digits : List ℕ) (i : ℕ) → i < 9 → AllDigits 10 (take i digits) → digits_value 10 (take i digits) < 10 ^ 8
value_small digits i few all =
    digits_value_short by_digits (take i digits) 8 all (rw length-take (omega arith))

-- bytes with one that is no digit write no number
pub no_digit : (digits : List ℕ) (i n : ℕ) → i < length digits → is_ascii_digit (get_or digits i 0) ≡ false → ¬ (IsNumber digits n)
no_digit digits i n inside test is =
    let within = digit_at digits i is.numeral.1 inside in
    let low : 48 ≤ get_or digits i 0 = within.0 in
    let high : get_or digits i 0 ≤ 57 = within.1 in
    absurd (grind (arith, nat_tests))

-- one digit more
pub more_digits : (digits : List ℕ) (i : ℕ) → i < length digits → is_ascii_digit (get_or digits i 0) ≡ true → AllDigits 10 (take i digits) → AllDigits 10 (take (i + 1) digits)
more_digits digits i inside test all = digits_more 10 digits i inside all (digit_small (get_or digits i 0) test)

pub more_value : (digits : List ℕ) (i value digit : ℕ) → i < length digits → is_ascii_digit (get_or digits i 0) ≡ true → value ≡ digits_value 10 (take i digits) → digit ≡ get_or digits i 0 - 48 → value * 10 + digit ≡ digits_value 10 (take (i + 1) digits)
more_value digits i value digit inside test is is_digit =
    let more = digits_value_more 10 digits i inside in
    omega (arith, more, is, is_digit, digit_is (get_or digits i 0) test)

-- all digits read
pub read_all : (digits : List ℕ) (i value : ℕ) → 0 < length digits → length digits ≤ 9 → length digits ≤ i → AllDigits 10 (take i digits) → value ≡ digits_value 10 (take i digits) → IsNumber digits value
read_all digits i value some short behind all is =
    let whole : take i digits ≡ digits = take_all i digits behind in
    record {
      numeral = (some, subst (λ (ds : List ℕ). AllDigits 10 ds) whole all);
      short = short;
      value = ap (λ (ds : List ℕ). digits_value 10 ds) (sym whole) ∙ sym is;
    }

-- a text of no digits or of more than nine
pub none_short : (digits : List ℕ) (n : ℕ) → length digits ≡ 0 → ¬ (IsNumber digits n)
none_short digits n none is = omega (arith, none, is.numeral.0)
