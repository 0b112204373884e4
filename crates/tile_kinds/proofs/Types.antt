-- One tile further round a corner, and the bound of a repeat.
use Rattle.std.proofs.Common.{◌≡◌, ℕ, ◌+◌, ◌<◌, ◌≤◌, List, length, refl, add-one, arith}
use Rattle.tile_model.specs.Tessellations.{TileKind, kind_at, around, around_times}
use Rattle.tile_model.specs.Faults.{IsSized}
use Rattle.tile_model.proofs.Types.{repeat_le_sides}

pub around_next : (kinds : List TileKind) (n : ℕ) (d : ℕ × ℕ) → around_times kinds (n + 1) d ≡ around kinds (around_times kinds n d)
around_next kinds n d = rw (add-one n) refl

-- a repeat is at most 64
pub repeat_at_most : (kinds : List TileKind) (k : ℕ) → IsSized kinds → k < length kinds → (kind_at kinds k).repeat ≤ 64
repeat_at_most kinds k sized is_kind =
    let has = sized.sides k is_kind in
    let small = repeat_le_sides (kind_at kinds k) has (sized.repeat k is_kind) in
    omega (arith, small, has.1)
