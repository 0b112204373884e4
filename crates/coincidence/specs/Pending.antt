-- What still follows from renamings: darts that wait in the slots of sides past the turn, and the
-- chain of the cells that hold them.
use Rattle.std.specs.Prelude.{◌≡◌, ℕ, ◌+◌, ◌*◌, ◌/◌, ◌%◌, ◌<◌, ◌≤◌, ◌⊎◌, ◌==◌, List, [], ◌∷◌, ◌++◌, length, if◌then◌else◌, sum_by}
use Rattle.coincidence.specs.declared.table.Cell.{Cell}
use Rattle.coincidence.specs.declared.table.Table.{Table}
use Rattle.coincidence.specs.Darts.{nowhere, slot_at, IsTaken}
use Rattle.coincidence.specs.Cells.{cell_at, turn_at, shift_at, IsOrdered, live_count, IsLive}
use Rattle.coincidence.specs.Atlases.{Atlas, IsSound}
use Rattle.coincidence.specs.Followed.{IsFollowed}

-- the end of the chain
abbrev pub last_link : ℕ
last_link = 4294967294

-- the next cell of the chain, or its end; nowhere for a cell that is not in the chain
abbrev pub next_at : List Cell → ℕ → ℕ
next_at cells c = (cell_at cells c).next

abbrev pub IsChained : List Cell → ℕ → Type 0
IsChained cells c = ¬ (next_at cells c ≡ nowhere)

-- x is one of a list of numbers
pub data IsAmong (x : ℕ) : List ℕ → Type 0 where
  first : (rest : List ℕ) → IsAmong x (x ∷ rest)
  later : (y : ℕ) (rest : List ℕ) → IsAmong x rest → IsAmong x (y ∷ rest)

-- the cells are those met from the head of the chain on, each once
pub data IsChain (cells : List Cell) : ℕ → List ℕ → Type 0 where
  ends : (head : ℕ) → head ≡ last_link → IsChain cells head []
  goes : (c : ℕ) (rest : List ℕ) → c < length cells → IsChained cells c → ¬ (IsAmong c rest)
      → IsChain cells (next_at cells c) rest → IsChain cells c (c ∷ rest)

-- the chain holds exactly the cells that say so
pub record HasChain (cells : List Cell) (head : ℕ) : Type 0 where
  pub chain : List ℕ
  pub met : IsChain cells head chain
  pub whole : (c : ℕ) → IsChained cells c → IsAmong c chain

-- The slot of a dart past its cell's turn is taken: what follows from it is still to be done.
pub record IsPending (cells : List Cell) (slots : List ℕ) (n : ℕ) : Type 0 where
  pub taken : IsTaken slots n
  pub past : turn_at cells (n / 64) ≤ n % 64

-- pending darts are those of chained cells, and of cell c from side i on
abbrev pub AreCovered : List Cell → List ℕ → ℕ → ℕ → Type 0
AreCovered cells slots c i = (n : ℕ) → IsPending cells slots n → IsChained cells (n / 64)
    ⊎ ((n / 64 ≡ c) × (i ≤ n % 64))

-- nothing is pending
abbrev pub IsQuiet : List Cell → List ℕ → Type 0
IsQuiet cells slots = (n : ℕ) → IsPending cells slots n → ⊥

-- The shape of a table: all that its numbers promise, whatever they stand for.
pub record IsShaped (t : Table) : Type 0 where
  pub some : 0 < length t.cells.items
  pub few : length t.cells.items ≤ 1000000
  pub slots : length t.slots.items ≡ 64 * length t.cells.items
  pub turns : (c : ℕ) → turn_at t.cells.items c ≤ 64
  pub shifts : (c : ℕ) → shift_at t.cells.items c < 64
  pub ordered : IsOrdered t.cells.items
  pub made : (n : ℕ) → IsTaken t.slots.items n → slot_at t.slots.items n < 64 * length t.cells.items
  pub back : (n : ℕ) → IsTaken t.slots.items n → slot_at t.slots.items (slot_at t.slots.items n) ≡ n
  pub live : t.live ≡ live_count t.cells.items
  pub chain : HasChain t.cells.items t.head

-- what is left to do, as a number that falls: the turns, and the cells in the chain
abbrev pub weight : Cell → ℕ
weight x = x.turn + (if x.next == nowhere then 0 else 1)

abbrev pub work : List Cell → ℕ
work cells = sum_by weight cells

-- A cell with a new turn, and what it became: it is put before the chain, unless it is chained.
abbrev pub written_cell : Cell → ℕ → ℕ → ℕ → ℕ → Cell
written_cell x turn into shift head = record {
  turn = turn;
  shift = shift;
  into = into;
  next = if x.next == nowhere then head else x.next;
}

abbrev pub written_head : Cell → ℕ → ℕ → ℕ
written_head x cell head = if x.next == nowhere then cell else head

-- The turn of a live cell may fall: to a divisor, or to 0 where it becomes an earlier live cell
-- whose turn divides its own.
pub record MayFall (cells : List Cell) (c turn into shift : ℕ) : Type 0 where
  pub made : c < length cells
  pub live : IsLive cells c
  pub less : turn < turn_at cells c
  pub narrow : shift < 64
  pub divides : 0 < turn → turn_at cells c % turn ≡ 0
  pub earlier : turn ≡ 0 → into < c
  pub into_live : turn ≡ 0 → IsLive cells into
  pub into_divides : turn ≡ 0 → turn_at cells c % turn_at cells into ≡ 0

-- The table was changed by renaming cells: it keeps its shape, what follows from it is kept, and
-- there is no more to do than before.
pub record HasMoved (t t' : Table) : Type 0 where
  pub shaped : IsShaped t'
  pub followed : IsFollowed t.cells.items t.slots.items t'.cells.items t'.slots.items
  pub covered : (c i : ℕ) → AreCovered t.cells.items t.slots.items c i
      → AreCovered t'.cells.items t'.slots.items c i
  pub falls : work t'.cells.items ≤ work t.cells.items

-- The first cell was taken from the chain, and what was pending is that of the cells still chained
-- and of it.
pub record HasUnchained (t t' : Table) (c : ℕ) : Type 0 where
  pub made : c < length t.cells.items
  pub shaped : IsShaped t'
  pub followed : IsFollowed t.cells.items t.slots.items t'.cells.items t'.slots.items
  pub covered : AreCovered t.cells.items t.slots.items 0 64
      → AreCovered t'.cells.items t'.slots.items c 0
  pub falls : work t'.cells.items < work t.cells.items
  pub sound : (atlas : Atlas) → IsSound atlas t.cells.items t.slots.items
      → IsSound atlas t'.cells.items t'.slots.items

-- The table was changed by joining anew what was pending.
pub record HasSettled (t t' : Table) : Type 0 where
  pub shaped : IsShaped t'
  pub followed : IsFollowed t.cells.items t.slots.items t'.cells.items t'.slots.items
  pub falls : work t'.cells.items ≤ work t.cells.items
  pub sound : (atlas : Atlas) → IsSound atlas t.cells.items t.slots.items
      → IsSound atlas t'.cells.items t'.slots.items

-- a live cell that is in no chain
abbrev pub fresh_cell : ℕ → Cell
fresh_cell turn = record { turn = turn; shift = 0; into = 0; next = nowhere }

-- A live cell was added, of whose sides none is joined.
pub record IsExtended (t t' : Table) (turn : ℕ) : Type 0 where
  pub cells : t'.cells.items ≡ t.cells.items ++ fresh_cell turn ∷ []
  pub count : length t'.slots.items ≡ length t.slots.items + 64
  pub same : (n : ℕ) → slot_at t'.slots.items n ≡ slot_at t.slots.items n
  pub head : t'.head ≡ t.head
  pub live : t'.live ≡ t.live + 1
