-- Regular tessellations {p,q}: one kind of tile, with p sides that are all alike, and q tiles round
-- each corner.
use Rattle.std.specs.Prelude.{◌≡◌, ℕ, ◌-◌, ◌*◌, ◌<◌, ◌≤◌, List, length}
use Rattle.tile_model.specs.Tessellations.{TileKind, kind_at, valence}

-- There is one kind, and its repeat is 1.
pub record IsRegular (kinds : List TileKind) : Type 0 where
  pub one_kind : length kinds ≡ 1
  pub one_type : (kind_at kinds 0).repeat ≡ 1

-- p of {p,q}: the number of sides of a tile
abbrev pub p_of : List TileKind → ℕ
p_of kinds = (kind_at kinds 0).sides

-- q of {p,q}: the number of tiles round a corner
abbrev pub q_of : List TileKind → ℕ
q_of kinds = valence kinds (0, 0)

-- {p,q} lies in the plane or the hyperbolic plane, and has infinitely many tiles.
abbrev pub IsInfinite : ℕ → ℕ → Type 0
IsInfinite p q = 4 ≤ ((p - 2) * (q - 2))

-- {p,q} lies on the sphere, and has finitely many tiles.
abbrev pub IsSpherical : ℕ → ℕ → Type 0
IsSpherical p q = ((p - 2) * (q - 2)) < 4

-- {p,q} is infinite, and both numbers are those of a tessellation.
pub record IsSymbol (p q : ℕ) : Type 0 where
  pub sides : (3 ≤ p) × (p ≤ 64)
  pub tiles : (3 ≤ q) × (q ≤ 64)
  pub infinite : IsInfinite p q
