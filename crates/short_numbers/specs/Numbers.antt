-- Numbers of one to nine digits, leading zeros allowed.
use Rattle.std.specs.Prelude.{◌≡◌, ℕ, ◌≤◌, Bool, ◌&&◌, nat_lt, nat_le, if◌then◌else◌, List, length, Option}
use Rattle.std.specs.declared.option.Option.TheVariants.{Some, None}
use Rattle.std.specs.Str.{all_ascii_digits}
use Rattle.std.specs.Str.Parse.{IsNumeral, digits_value}

-- one to nine digits with this value
pub record IsNumber (digits : List ℕ) (n : ℕ) : Type 0 where
  pub numeral : IsNumeral 10 digits
  pub short : length digits ≤ 9
  pub value : digits_value 10 digits ≡ n

-- whether the bytes are one to nine digits
abbrev pub is_number : List ℕ → Bool
is_number digits =
    nat_lt 0 (length digits) && nat_le (length digits) 9 && all_ascii_digits digits

-- the number that the bytes write, where they write one
unfoldable pub number : List ℕ → Option ℕ
number digits = if is_number digits then Some (digits_value 10 digits) else None
