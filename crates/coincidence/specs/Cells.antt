-- The cells of a table: which are live, which became which, how far sides are told apart, and what
-- each dart is named.
use Rattle.std.specs.Prelude.{◌≡◌, ℕ, zero, suc, ◌+◌, ◌%◌, ◌<◌, ◌==◌, List, slice_index_or, sum_by, if◌then◌else◌}
use Rattle.coincidence.specs.declared.table.Cell.{Cell}
use Rattle.coincidence.specs.Darts.{nowhere}

-- what stands for a cell that was not made: one renamed to the first cell
abbrev pub no_cell : Cell
no_cell = record { turn = 0; shift = 0; into = 0; next = nowhere }

abbrev pub cell_at : List Cell → ℕ → Cell
cell_at cells c = slice_index_or cells c no_cell

-- the number of sides of a cell that are not known to coincide, 0 of a renamed cell
abbrev pub turn_at : List Cell → ℕ → ℕ
turn_at cells c = (cell_at cells c).turn

-- the cell that a renamed cell became
abbrev pub into_at : List Cell → ℕ → ℕ
into_at cells c = (cell_at cells c).into

-- the side of that cell that side 0 of the renamed cell became
abbrev pub shift_at : List Cell → ℕ → ℕ
shift_at cells c = (cell_at cells c).shift

abbrev pub IsLive : List Cell → ℕ → Type 0
IsLive cells c = 0 < turn_at cells c

-- the number of live cells: one for each
abbrev pub live_count : List Cell → ℕ
live_count cells = sum_by (λ x. if x.turn == 0 then 0 else 1) cells

-- a renamed cell became an earlier one
abbrev pub IsOrdered : List Cell → Type 0
IsOrdered cells = (c : ℕ) → turn_at cells c ≡ 0 → into_at cells c < c

-- The dart of a live cell that a side of a cell is, followed from cell to cell so many times at
-- most: sides equal modulo the turn are one dart, named by the least of them.
abbrev pub name_within : ℕ → List Cell → ℕ → ℕ → ℕ × ℕ
name_within zero cells c i = (c, i)
name_within (suc n) cells c i = if turn_at cells c == 0
    then name_within n cells (into_at cells c) (i + shift_at cells c)
    else (c, i % turn_at cells c)

-- the dart of a live cell that a dart is
unfoldable pub name : List Cell → ℕ × ℕ → ℕ × ℕ
name cells d = name_within (suc d.0) cells d.0 d.1
