-- Numbers that digits write, and the texts of places.
use Rattle.std.proofs.Common.{◌≡◌, ◌≢◌, ℕ, zero, suc, ◌+◌, ◌*◌, ◌<◌, ◌≤◌, ◌^◌, List, length, take, get_or, sym, ap, ◌∙◌, subst, arith, None, Some}
use Rattle.std.specs.Prelude.{Option, IfSome, IfNone, SomeIff, decimal}
use Rattle.std.specs.Char.{digit_value}
use Rattle.std.specs.Str.Parse.{AllDigits, digits_value}
use Rattle.std.proofs.lemmas.Fmt.{decimal_is_IsNumeral, decimal_digit, decimal_nonempty, first_decimal, decimal-digits_value}
use Rattle.std.proofs.lemmas.Int.Digits.{digits_value_more}
use Rattle.std.proofs.lemmas.List.{take_all}
use Rattle.std.proofs.lemmas.Str.{digit_value_digit}
use Rattle.std.proofs.lemmas.Str.Parse.{IsNumeralModel, numerals_by_value, tells_digits, digit_at, digits_value-take-le}

-- the bytes are digits, and their value fits
abbrev pub WriteNumber : List ℕ → Type 0
WriteNumber digits = AllDigits 10 digits × (digits_value 10 digits < 2 ^ 64)

by_digits : IsNumeralModel (AllDigits 10) (digits_value 10)
by_digits = numerals_by_value _ tells_digits

-- where one byte is no digit, or the value with it does not fit, the bytes write no number
pub no_number : (digits : List ℕ) (i value : ℕ) → i < length digits → value ≡ digits_value 10 (take i digits) → ¬ ((digit_value (get_or digits i 0) < 10) × (value * 10 + digit_value (get_or digits i 0) < 2 ^ 64)) → ¬ (WriteNumber digits)
no_number digits i value inside is fails number =
    let more = digits_value_more 10 digits i inside in
    let within = digits_value-take-le 10 digits (i + 1) (omega arith) in
    let range = digit_at digits i number.0 inside in
    let digit = digit_value_digit (get_or digits i 0) range in
    fails (omega (arith, digit, range), omega (arith, more, within, is, number.1))

-- where all bytes are read, they write the value
pub all_read : (digits : List ℕ) (i value : ℕ) → length digits ≤ i → value < 2 ^ 64 → AllDigits 10 (take i digits) → value ≡ digits_value 10 (take i digits) → WriteNumber digits × (value ≡ digits_value 10 digits)
all_read digits i value ended small all is =
    let whole : take i digits ≡ digits = take_all i digits ended in
    let value_is : value ≡ digits_value 10 digits = is ∙ ap (λ (ds : List ℕ). digits_value 10 ds) whole in
    ((subst (λ (ds : List ℕ). AllDigits 10 ds) whole all, omega (arith, value_is, small)), value_is)

-- the text of a place is a number
place_number : (bytes : List ℕ) (place : ℕ) → place < 2 ^ 64 → decimal place ≡ bytes → WriteNumber bytes
place_number bytes place small text =
    let numeral = decimal_is_IsNumeral place small in
    let value : digits_value 10 bytes ≡ place = ap (λ (ds : List ℕ). digits_value 10 ds) (sym text) ∙ numeral.1 in
    (subst (λ (ds : List ℕ). AllDigits 10 ds) text numeral.0.1, omega (arith, value))

-- a number without a leading zero is the text of its value
pub some_place : (bytes : List ℕ) (r : Option ℕ) → 0 < length bytes → ¬ ((get_or bytes 0 0 ≡ 48) × (1 < length bytes)) → SomeIff r (WriteNumber bytes) (digits_value 10 bytes) → IfSome r (λ place. decimal place ≡ bytes)
some_place bytes None some plain is = tt
some_place bytes (Some place) some plain is =
    let alone : get_or bytes 0 0 ≡ 48 → length bytes ≡ 1 = λ zero. omega (arith, some, λ (more : 1 < length bytes). plain (zero, more)) in
    ap decimal is.1 ∙ decimal-digits_value by_digits bytes is.0.0 some alone is.0.1

pub no_place : (bytes : List ℕ) (r : Option ℕ) → SomeIff r (WriteNumber bytes) (digits_value 10 bytes) → IfNone r ((place : ℕ) → place < 2 ^ 64 → decimal place ≢ bytes)
no_place bytes None is = λ place small text. is (place_number bytes place small text)
no_place bytes (Some place) is = tt

-- the text of a place has a byte, and no zero before another one
pub no_bytes : (bytes : List ℕ) → length bytes ≡ 0 → (place : ℕ) → place < 2 ^ 64 → decimal place ≢ bytes
no_bytes bytes none place small text =
    omega (arith, none, decimal_nonempty place small, ap length text)

pub leading_zero : (bytes : List ℕ) → (get_or bytes 0 0 ≡ 48) × (1 < length bytes) → (place : ℕ) → place < 2 ^ 64 → decimal place ≢ bytes
leading_zero bytes leading zero small text =
    omega (arith, leading.1, ap length (sym (decimal_digit 0 (omega arith)) ∙ text))
leading_zero bytes leading (suc n) small text =
    omega (arith, leading.0, first_decimal (suc n) (omega arith) small, ap (λ (ds : List ℕ). get_or ds 0 0) text)
