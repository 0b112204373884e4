-- How a table may change while cells are renamed: names are composed, joins are kept under the new
-- names, and turns fall to divisors.
use Rattle.std.specs.Prelude.{◌≡◌, ℕ, ◌/◌, ◌%◌, ◌<◌, List, length}
use Rattle.coincidence.specs.declared.table.Cell.{Cell}
use Rattle.coincidence.specs.Darts.{unpack, slot_at, IsTaken}
use Rattle.coincidence.specs.Cells.{turn_at, IsLive, name}

-- a packed dart of a live cell, below its turn
abbrev pub IsSettled : List Cell → ℕ → Type 0
IsSettled cells n = n % 64 < turn_at cells (n / 64)

-- some slot holds a join of two darts of these names
pub record AreNamed (cells : List Cell) (slots : List ℕ) (p q : ℕ × ℕ) : Type 0 where
  pub at : ℕ
  pub taken : IsTaken slots at
  pub here : name cells (unpack at) ≡ p
  pub across : name cells (unpack (slot_at slots at)) ≡ q

-- the turn of a live cell divides the turn that it had before
pub record HasFallen (cells cells' : List Cell) (c : ℕ) : Type 0 where
  pub was_live : IsLive cells c
  pub divides : turn_at cells c % turn_at cells' c ≡ 0

pub record IsFollowed
    (cells : List Cell) (slots : List ℕ) (cells' : List Cell) (slots' : List ℕ) : Type 0
  where
    pub names : (d : ℕ × ℕ) → name cells' (name cells d) ≡ name cells' d
    pub kept : (p q : ℕ × ℕ) → AreNamed cells slots p q
        → AreNamed cells' slots' (name cells' p) (name cells' q)
    pub turns : (c : ℕ) → IsLive cells' c → HasFallen cells cells' c
    pub count : length cells' ≡ length cells
