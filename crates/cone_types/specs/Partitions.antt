-- Partitions of the numbers below a bound, as lists of the classes of these numbers.
use Rattle.std.specs.Prelude.{◌≡◌, ◌<◌, ◌≤◌, ℕ, List, length, slice_index_or}

-- The class of an entry.
abbrev pub class_of : List ℕ → ℕ → ℕ
class_of classes entry = slice_index_or classes entry 0

-- No class has a number above those of its entries.
abbrev pub KeepsLow : List ℕ → Type 0
KeepsLow classes = (entry : ℕ) → entry < length classes → class_of classes entry ≤ entry

-- Each of `entries` entries has a class. A class has the number of its first entry or a lower one,
-- and the first `apart` entries are in classes of their own, which have their numbers.
pub record IsPartition (entries apart : ℕ) (classes : List ℕ) : Type 0 where
  pub entries_all : length classes ≡ entries
  pub low : KeepsLow classes
  pub alone : (entry : ℕ) → entry < entries → entry < apart → class_of classes entry ≡ entry
