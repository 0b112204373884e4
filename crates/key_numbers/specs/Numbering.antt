-- What a numbering holds of the keys that were handed in.
use Rattle.std.specs.Prelude.{◌≡◌, ℕ, ◌<◌, ◌↔◌, List, length, slice_get, Option, None, Some}
use Rattle.std.specs.Option.{option_map}
use Rattle.key_numbers.specs.declared.numbering.Numbering.{Numbering}
use Rattle.key_numbers.specs.Numbers.{entry}

-- the key of number k
abbrev pub key_at : Numbering → ℕ → Option (List ℕ)
key_at n k = option_map (λ v. v.items) (slice_get n.keys.keys k)

-- The keys that were handed in, None for what has no key, have their numbers.
pub record HasNumbered (met : List (Option (List ℕ))) (n : Numbering) : Type 0 where
  pub long : length n.numbers.items ≡ length met
  pub nothing : (i : ℕ) → (entry n.numbers.items i ≡ None) ↔ (entry met i ≡ None)
  pub keys : (i m : ℕ) (x : List ℕ) → entry met i ≡ Some x → entry n.numbers.items i ≡ Some m
      → key_at n m ≡ Some x
  pub first : (i m k : ℕ) → entry n.numbers.items i ≡ Some m → k < m
      → (j : ℕ) × (j < i) × (entry n.numbers.items j ≡ Some k)
  pub counted : (k : ℕ) → (k < length n.keys.keys) ↔ ((i : ℕ) × (entry n.numbers.items i ≡ Some k))
  pub distinct : (i j : ℕ) (x : List ℕ) → key_at n i ≡ Some x → key_at n j ≡ Some x → i ≡ j
