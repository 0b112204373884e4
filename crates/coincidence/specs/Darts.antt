-- Darts, pairs of a cell and a side, and the one number in which a dart is packed.
use Rattle.std.specs.Prelude.{◌≡◌, ℕ, ◌+◌, ◌*◌, ◌/◌, ◌%◌, List, slice_index_or}

-- what stands where there is no dart and no cell
abbrev pub nowhere : ℕ
nowhere = 4294967295

abbrev pub pack : ℕ × ℕ → ℕ
pack d = 64 * d.0 + d.1

abbrev pub unpack : ℕ → ℕ × ℕ
unpack n = (n / 64, n % 64)

-- what stands in the slot of a packed dart
abbrev pub slot_at : List ℕ → ℕ → ℕ
slot_at slots n = slice_index_or slots n nowhere

-- the slot holds a dart
abbrev pub IsTaken : List ℕ → ℕ → Type 0
IsTaken slots n = ¬ (slot_at slots n ≡ nowhere)
