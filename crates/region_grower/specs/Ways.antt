-- How far the cells of a table lie from its first cell, by crossings through joined darts.
use Rattle.std.specs.Prelude.{◌≡◌, ℕ, suc, ◌<◌, ◌≤◌, Some, None}
use Rattle.coincidence.specs.Cells.{turn_at, IsLive}
use Rattle.coincidence.specs.Tables.{JoinTable, joined_to}

-- n crossings through joined darts lead from cell 0 to a cell
pub data IsWay (t : JoinTable) : ℕ → ℕ → Type 0 where
  starts : IsWay t 0 0
  crosses : (n : ℕ) (d e : ℕ × ℕ) → IsWay t n d.0 → joined_to t d ≡ Some e → IsWay t (suc n) e.0

-- the cell is reached by n crossings at most
pub record IsWithin (t : JoinTable) (n c : ℕ) : Type 0 where
  pub crossings : ℕ
  pub at_most : crossings ≤ n
  pub way : IsWay t crossings c

-- r is the least number of crossings to the cell
pub record IsRadius (t : JoinTable) (c r : ℕ) : Type 0 where
  pub way : IsWay t r c
  pub least : (n : ℕ) → IsWay t n c → r ≤ n

-- every live cell is reached by n crossings at most
abbrev pub AllWithin : JoinTable → ℕ → Type 0
AllWithin t n = (c : ℕ) → IsLive t.cells c → IsWithin t n c

-- a dart of a live cell, named by the least of its sides
pub record IsDart (t : JoinTable) (d : ℕ × ℕ) : Type 0 where
  pub live : IsLive t.cells d.0
  pub below : d.1 < turn_at t.cells d.0

-- some dart of the cell is not joined
pub record HasOpen (t : JoinTable) (c : ℕ) : Type 0 where
  pub side : ℕ
  pub is_dart : IsDart t (c, side)
  pub unjoined : joined_to t (c, side) ≡ None

-- the dart is joined
pub record IsJoined (t : JoinTable) (d : ℕ × ℕ) : Type 0 where
  pub over : ℕ × ℕ
  pub joined : joined_to t d ≡ Some over

-- all sides of a cell are joined
abbrev pub AllJoined : JoinTable → ℕ → Type 0
AllJoined t c = (i : ℕ) → IsJoined t (c, i)
