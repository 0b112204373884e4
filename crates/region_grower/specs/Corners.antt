-- Round the corners of a table, through joined darts.
use Rattle.std.specs.Prelude.{◌≡◌, ℕ, zero, suc, ◌+◌, ◌-◌, Option, Some, option_and_then}
use Rattle.tile_model.specs.Tessellations.{valence}
use Rattle.coincidence.specs.Cells.{name}
use Rattle.coincidence.specs.Tables.{JoinTable, joined_to, type_at}
use Rattle.region_grower.specs.Ways.{IsDart}

-- the next side to the left
abbrev pub left_of : ℕ × ℕ → ℕ × ℕ
left_of d = (d.0, d.1 + 1)

-- LX: one tile further round the corner at the left end
abbrev pub further : JoinTable → ℕ × ℕ → Option (ℕ × ℕ)
further t d = joined_to t (left_of d)

-- LX, n times
abbrev pub rounds : ℕ → JoinTable → ℕ × ℕ → Option (ℕ × ℕ)
rounds zero t d = Some d
rounds (suc n) t d = option_and_then (further t) (rounds n t d)

-- the valence of the corner at the left end of a dart
abbrev pub valence_at : JoinTable → ℕ × ℕ → ℕ
valence_at t d = valence t.kinds (type_at t d)

-- The corner is closed: if LX repeated one time less than the valence leads on through joined
-- darts, one more LX leads back.
abbrev pub IsClosed : JoinTable → ℕ × ℕ → Type 0
IsClosed t d = (e : ℕ × ℕ) → rounds (valence_at t d - 1) t d ≡ Some e → further t e
    ≡ Some (name t.cells d)

-- every corner is closed: that of each dart of a live cell
abbrev pub AllClosed : JoinTable → Type 0
AllClosed t = (d : ℕ × ℕ) → IsDart t d → IsClosed t d

-- The corner is whole: all tiles round it are there, and LX, repeated as often as the valence says,
-- leads back.
abbrev pub IsWhole : JoinTable → ℕ × ℕ → Type 0
IsWhole t d = rounds (valence_at t d) t d ≡ Some (name t.cells d)
