-- Marks in a list.
use Rattle.std.proofs.Common.{◌≡◌, ℕ, ◌⊎◌, Bool, true, false, List, sym, ◌∙◌, inl, inr, replicate, arith, get_or-set_other}
use Rattle.std.proofs.lemmas.Bool.{cases_eq, cases_lt}
use Rattle.std.proofs.lemmas.List.{get_or-replicate, get_or_past, length-replicate}
use Rattle.std.proofs.Math.ListN.{set}
use Rattle.cell_patches.specs.Patches.{IsAmong}

-- one mark more
pub marked : (sides : List Bool) (k i : ℕ) → IsAmong (set sides k true) i → IsAmong sides i ⊎ (i ≡ k)
marked sides k i h = elim (cases_eq i k) [
  | inl e ↦ inr e
  | inr other ↦ inl (sym (get_or-set_other sides k i true false other) ∙ h)
]

-- no mark
pub unmarked : (n i : ℕ) → IsAmong (replicate n false) i → ⊥
unmarked n i h = elim (cases_lt i n) [
  | inl low ↦ let none = get_or-replicate n i false false low in absurd (cc (none, h))
  | inr past ↦ let none = get_or_past (replicate n false) i false (omega (arith, past, length-replicate n false)) in absurd (cc (none, h))
]
