-- Slots that are added empty.
use Rattle.std.proofs.Common.{◌≡◌, ℕ, ◌-◌, List, ◌++◌, length, replicate, refl, sym, ◌∙◌, inl, inr}
use Rattle.std.proofs.lemmas.Bool.{cases_lt}
use Rattle.std.proofs.lemmas.List.{get_or_append_left, get_or-append_right, get_or-replicate, get_or_past, length-replicate}
use Rattle.std.proofs.Common.{arith}
use Rattle.coincidence.specs.Darts.{nowhere, slot_at}

empty_at : (n k : ℕ) → slot_at (replicate n nowhere) k ≡ nowhere
empty_at n k = elim (cases_lt k n) [
  | inl below ↦ get_or-replicate n k nowhere nowhere below
  | inr past ↦ get_or_past (replicate n nowhere) k nowhere (omega (arith, past, length-replicate n nowhere))
]

pub slots_added : (xs : List ℕ) (n k : ℕ) → slot_at (xs ++ replicate n nowhere) k ≡ slot_at xs k
slots_added xs n k = elim (cases_lt k (length xs)) [
  | inl below ↦ get_or_append_left xs (replicate n nowhere) nowhere k below
  | inr past ↦ get_or-append_right xs (replicate n nowhere) (length xs) k nowhere refl past ∙ (empty_at n (k - length xs) ∙ sym (get_or_past xs k nowhere past))
]
