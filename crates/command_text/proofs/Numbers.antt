-- Numbers of walkers, and that no digit is a space.
use Rattle.std.proofs.Common.{◌≡◌, ◌≢◌, ℕ, ◌<◌, List, [], ◌∷◌, sym, ap, ◌∙◌, arith}
use Rattle.std.specs.Char.{digit_value}
use Rattle.std.specs.Str.Parse.{AllDigits}
use Rattle.std.proofs.lemmas.List.Elements.{All-nil, All-cons}
use Rattle.short_numbers.specs.Numbers.{IsNumber}
use Rattle.command_text.specs.CommandLines.{space, IsWalkerNumber}
use Rattle.command_text.specs.Words.{Lacks}

digit_no_space : (byte : ℕ) → digit_value byte < 10 → byte ≢ space
digit_no_space byte digit is =
    let value : digit_value byte ≡ 36 = ap digit_value is in
    omega (arith, value, digit)

digits_lack : (digits : List ℕ) → AllDigits 10 digits → Lacks space digits
digits_lack [] all = All-nil (λ b. b ≢ space)
digits_lack (byte ∷ digits) all =
    All-cons (λ b. b ≢ space) byte digits (digit_no_space byte all.0) (digits_lack digits all.1)

pub walker_lacks : (digits : List ℕ) (w : ℕ) → IsWalkerNumber digits w → Lacks space digits
walker_lacks digits w is = digits_lack digits is.number.numeral.1

-- a number of a walker is written by its digits alone
pub one_number :
    (digits others : List ℕ) (w v : ℕ) → digits ≡ others → IsWalkerNumber digits w
    → IsWalkerNumber others v → w ≡ v
one_number digits others w v same is is' = cc (same, is.number.value, is'.number.value)

-- bytes are one number
pub one_value : (bytes : List ℕ) (n m : ℕ) → IsNumber bytes n → IsNumber bytes m → n ≡ m
one_value bytes n m is is' = sym is.value ∙ is'.value
