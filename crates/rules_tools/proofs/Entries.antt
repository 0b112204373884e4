-- Entries of lists of what may be there, and both cases of a test.
use Rattle.std.proofs.Common.{◌≡◌, ◌⊎◌, inl, inr, ℕ, ◌<◌, ◌≤◌, List, length, Bool, true, false, refl}
use Rattle.std.specs.Prelude.{Option, Some, None}
use Rattle.std.proofs.lemmas.Bool.{cases_lt}
use Rattle.std.proofs.lemmas.List.{get_or_past}
use Rattle.key_numbers.specs.Numbers.{entry}

pub cases : (b : Bool) → (b ≡ true) ⊎ (b ≡ false)
cases true = inl refl
cases false = inr refl

-- what is there stands among the entries
pub entry_below : {A : Type 0} (xs : List (Option A)) (i : ℕ) (x : A) → entry xs i ≡ Some x → i < length xs
entry_below xs i x is = go (cases_lt i (length xs))
  where
    go : (i < length xs) ⊎ (length xs ≤ i) → i < length xs
    go (inl lt) = lt
    go (inr le) = let none = get_or_past xs i None le in absurd (cc (none, is))
