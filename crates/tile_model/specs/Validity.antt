-- When a list of kinds is a tessellation: seven points, each of all kinds and residues, in the
-- order in which they are tried.
use Rattle.std.specs.Prelude.{◌≡◌, ℕ, ◌%◌, ◌<◌, ◌≤◌, List, length}
use Rattle.tile_model.specs.Tessellations.{TileKind, kind_at, IsType, cross, valence, around, around_times}

-- there are 1 to 256 kinds
abbrev pub HasCount : List TileKind → Type 0
HasCount kinds = (1 ≤ length kinds) × (length kinds ≤ 256)

-- a kind has 3 to 64 sides
abbrev pub HasSides : TileKind → Type 0
HasSides kind = (3 ≤ kind.sides) × (kind.sides ≤ 64)

-- The repeat of a kind is at least 1, divides the number of its sides, and is the length of both of
-- its lists.
pub record HasRepeat (kind : TileKind) : Type 0 where
  pub positive : 1 ≤ kind.repeat
  pub divides : kind.sides % kind.repeat ≡ 0
  pub partners : length kind.partner ≡ kind.repeat
  pub valences : length kind.valence ≡ kind.repeat

-- the partner of a side is a kind and a residue below its repeat
abbrev pub HasPartner : List TileKind → ℕ × ℕ → Type 0
HasPartner kinds d = IsType kinds (cross kinds d)

-- the valence is 3 to 64
abbrev pub HasValence : List TileKind → ℕ × ℕ → Type 0
HasValence kinds d = (3 ≤ valence kinds d) × (valence kinds d ≤ 64)

-- the partner of the partner is the side itself
abbrev pub IsInvolution : List TileKind → ℕ × ℕ → Type 0
IsInvolution kinds d = cross kinds (cross kinds d) ≡ d

-- All tiles round a corner give it one valence, and going round it as often as the valence says
-- leads back.
pub record HasCorner (kinds : List TileKind) (d : ℕ × ℕ) : Type 0 where
  pub one_valence : valence kinds (around kinds d) ≡ valence kinds d
  pub closes : around_times kinds (valence kinds d) d ≡ d

-- A tessellation: each field is one point.
pub record IsValid (kinds : List TileKind) : Type 0 where
  pub count : HasCount kinds
  pub sides : (k : ℕ) → k < length kinds → HasSides (kind_at kinds k)
  pub repeat : (k : ℕ) → k < length kinds → HasRepeat (kind_at kinds k)
  pub partner : (d : ℕ × ℕ) → IsType kinds d → HasPartner kinds d
  pub valence : (d : ℕ × ℕ) → IsType kinds d → HasValence kinds d
  pub involution : (d : ℕ × ℕ) → IsType kinds d → IsInvolution kinds d
  pub corner : (d : ℕ × ℕ) → IsType kinds d → HasCorner kinds d
