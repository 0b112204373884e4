-- The first place of a byte, as a search of the bytes finds it.
use Rattle.std.proofs.Common.{◌≡◌, ℕ, Bool, true, false, List, length, inl, inr, None, Some, sym, arith, zero-le}
use Rattle.std.specs.Prelude.{Option}
use Rattle.std.specs.Option.{unwrap_or}
use Rattle.std.specs.List.{position_or_len}
use Rattle.std.proofs.lemmas.Bool.{cases_Bool}
use Rattle.std.proofs.lemmas.List.Sums.{position_or_len_is}
use Rattle.memchr.specs.Find.{IsFirstByte}

fails : (b : Bool) → ¬ (b ≡ true) → b ≡ false
fails b not_so = elim (cases_Bool b) [
  | inl holds ↦ absurd (not_so holds)
  | inr is ↦ is
]

pub first_place : (test : ℕ → Bool) (bytes : List ℕ) (r : Option ℕ) → IsFirstByte test bytes r → unwrap_or r (length bytes) ≡ position_or_len test bytes
first_place test bytes None none =
    sym (position_or_len_is test bytes (length bytes) 0 (omega arith) (λ k lt. fails _ (none k zero-le lt)) (λ lt. absurd (omega (arith, lt))))
first_place test bytes (Some k) first =
    let within = first.0.high in
    sym (position_or_len_is test bytes k 0 (omega (arith, within)) (λ j lt. fails _ (first.0.before j zero-le lt)) (λ _. first.1))
