-- The numbers of a file: at most 255.
use Rattle.std.proofs.Common.{◌≡◌, ℕ, ◌<◌, ◌≤◌, inl, inr, true, false, nat_le, List, length, refl, sym, ◌∙◌, ap, arith, None, Some}
use Rattle.std.specs.Prelude.{Option, Result}
use Rattle.std.specs.declared.result.Result.TheVariants.{Ok, Err}
use Rattle.std.specs.Result.{OkIff, result_ok}
use Rattle.std.specs.Str.{all_ascii_digits}
use Rattle.std.specs.Str.Parse.{digits_value}
use Rattle.std.proofs.lemmas.Bool.{cases_lt}
use Rattle.std.proofs.lemmas.Bool.Decides.{nat_tests}
use Rattle.short_numbers.specs.Numbers.{is_number, number}
use Rattle.tess_text.specs.Grammar.{small, small_number}

-- a number that is small, and one that is not
small_some : (n : ℕ) → n ≤ 255 → small (Some n) ≡ Some n
small_some n within = let test : nat_le n 255 ≡ true = grind (arith, nat_tests) in rw test refl

small_none : (n : ℕ) → 255 < n → small (Some n) ≡ None
small_none n beyond = let test : nat_le n 255 ≡ false = grind (arith, nat_tests) in rw test refl

small_within : (n m : ℕ) → small (Some m) ≡ Some n → n ≤ 255
small_within n m is = elim (cases_lt m 256) [
  | inl within ↦
      let told : Some m ≡ Some n = sym (small_some m (omega arith)) ∙ is in
      let e : m ≡ n = cc in
      omega (arith, e)
  | inr beyond ↦ let none : None ≡ Some n = sym (small_none m (omega arith)) ∙ is in absurd (cc none)
]

-- so it is of a word
pub word_some : (word : List ℕ) (n : ℕ) → number word ≡ Some n → n ≤ 255 → small_number word ≡ Some n
unfolding small_number
word_some word n is within = ap (λ (o : Option ℕ). small o) is ∙ small_some n within

pub word_none : (word : List ℕ) → None ≡ number word → None ≡ small_number word
unfolding small_number
word_none word is = ap (λ (o : Option ℕ). small o) is

pub word_within : (word : List ℕ) (n : ℕ) → small_number word ≡ Some n → n ≤ 255
unfolding small_number
word_within word n is = go (number word) refl
  where
    go : (o : Option ℕ) → number word ≡ o → n ≤ 255
    go None e = let none : None ≡ Some n = sym (ap (λ (x : Option ℕ). small x) e) ∙ is in absurd (cc none)
    go (Some m) e = small_within n m (sym (ap (λ (x : Option ℕ). small x) e) ∙ is)

-- the conversion to a byte decides
pub word_byte : {E : Type 0} {o : Option ℕ} (word : List ℕ) (n : ℕ) (r : Result ℕ E) → Some n ≡ number word → OkIff r (n < 256) n → o ≡ result_ok r → o ≡ small_number word
unfolding small_number
word_byte word n (Ok x) is fits told = told ∙ ap (λ (m : ℕ). Some m) fits.1 ∙ sym (word_some word n (sym is) (omega (arith, fits.0)))
word_byte word n (Err e) is fits told = elim (cases_lt n 256) [
  | inl lt ↦ absurd (fits lt)
  | inr ge ↦ told ∙ sym (small_none n (omega arith)) ∙ ap (λ (x : Option ℕ). small x) is
]

-- one to nine digits are a number
pub number_some : (word : List ℕ) (n : ℕ) → 0 < length word → length word ≤ 9 → all_ascii_digits word ≡ true → digits_value 10 word ≡ n → number word ≡ Some n
unfolding number
number_some word n some short digits is =
    let test : is_number word ≡ true = grind (arith, nat_tests) in
    rw (test, is) refl
