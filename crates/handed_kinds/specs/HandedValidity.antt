-- When a list of handed kinds is a tessellation: seven points, each of all kinds and residues of
-- the list, in the order in which they are tried.
use Rattle.std.specs.Prelude.{◌≡◌, ℕ, ◌%◌, ◌<◌, ◌≤◌, Bool, true, false, List, length}
use Rattle.handed_kinds.specs.Handed.{HandedKind, handed_at, IsSide, partner_at, valence_at, valence, around, around_times}

-- there are 1 to 128 kinds
abbrev pub HasCount : List HandedKind → Type 0
HasCount hs = (1 ≤ length hs) × (length hs ≤ 128)

-- a kind has 3 to 64 sides
abbrev pub HasSides : HandedKind → Type 0
HasSides kind = (3 ≤ kind.sides) × (kind.sides ≤ 64)

-- The repeat of a kind is at least 1, divides the number of its sides, and is the length of both of
-- its lists.
pub record HasRepeat (kind : HandedKind) : Type 0 where
  pub positive : 1 ≤ kind.repeat
  pub divides : kind.sides % kind.repeat ≡ 0
  pub partners : length kind.partner ≡ kind.repeat
  pub valences : length kind.valence ≡ kind.repeat

-- the partner of a side is a kind and a residue below its repeat
abbrev pub HasPartner : List HandedKind → ℕ × ℕ → Type 0
HasPartner hs d = IsSide hs ((partner_at hs d).0, (partner_at hs d).1)

-- the valence is 3 to 64
abbrev pub HasValence : List HandedKind → ℕ × ℕ → Type 0
HasValence hs d = (3 ≤ valence_at hs d) × (valence_at hs d ≤ 64)

-- the partner of the partner is the side itself, and both have the same mark
abbrev pub IsInvolution : List HandedKind → ℕ × ℕ → Type 0
IsInvolution hs d =
    partner_at hs ((partner_at hs d).0, (partner_at hs d).1) ≡ (d.0, d.1, (partner_at hs d).2)

-- All tiles round the corner of a handed type give it one valence, and going round it as often as
-- the valence says leads back.
pub record IsClosed (hs : List HandedKind) (t : ℕ × ℕ × Bool) : Type 0 where
  pub one_valence : valence hs (around hs t) ≡ valence hs t
  pub closes : around_times hs (valence hs t) t ≡ t

-- the corners at both ends of a side close, as they are seen with either hand
pub record HasCorner (hs : List HandedKind) (d : ℕ × ℕ) : Type 0 where
  pub plain : IsClosed hs (d.0, d.1, false)
  pub mirrored : IsClosed hs (d.0, d.1, true)

-- A tessellation: each field is one point.
pub record IsHandedValid (hs : List HandedKind) : Type 0 where
  pub count : HasCount hs
  pub sides : (k : ℕ) → k < length hs → HasSides (handed_at hs k)
  pub repeat : (k : ℕ) → k < length hs → HasRepeat (handed_at hs k)
  pub partner : (d : ℕ × ℕ) → IsSide hs d → HasPartner hs d
  pub valence : (d : ℕ × ℕ) → IsSide hs d → HasValence hs d
  pub involution : (d : ℕ × ℕ) → IsSide hs d → IsInvolution hs d
  pub corner : (d : ℕ × ℕ) → IsSide hs d → HasCorner hs d
