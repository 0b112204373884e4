-- The corner types of the regular tessellation {p,q}. They depend on q alone. Here m is q divided
-- by 2 and rounded down.
--
-- | q    | Type | Offsets                                                          | Outer      |
-- | even | 0    | from 0 down to -m by ones, then up to -1                         | (0, m - 1) |
-- | odd  | 0    | from 0 down to -m by ones, then up to 0                          | (1, m)     |
-- | odd  | 1    | from 0 down to -m by ones, then -m again and up to -1            | (0, m - 1) |
use Rattle.std.specs.Prelude.{ℕ, zero, suc, ◌+◌, ◌-◌, ◌*◌, ◌/◌, ◌%◌, List, [], ◌∷◌, ◌++◌, ℤ, pos, ◌-ℤ◌, nat_le, if◌then◌else◌}
use Rattle.tree_model.specs.declared.Claim.{Claim}
use Rattle.tree_model.specs.Automata.{CornerType}

-- m: the place of the tile of the least depth, the lowest of the corner
unfoldable pub half : ℕ → ℕ
half q = q / 2

-- 0 for even q, 1 for odd q. The corner types are 0 for even q, and 0 and 1 for odd q.
unfoldable pub parity : ℕ → ℕ
parity q = q % 2

-- the list of f 0, f 1, .., f (n - 1)
abbrev pub listed : {X : Type 0} → (ℕ → X) → ℕ → List X
listed f zero = []
listed f (suc n) = listed f n ++ f n ∷ []

-- The depth of the tile at place t of a corner of type g, less that of the tile at place 0. The
-- tile at place 0 is the deepest or as deep as the last one. Depths fall by ones to place m and
-- rise by ones behind it; at type 1 the tile behind place m is as deep as that at m.
unfoldable pub depth_at : ℕ → ℕ → ℕ → ℤ
depth_at q g t = if nat_le t (half q) then pos 0 -ℤ pos t else pos t -ℤ pos (2 * half q + g)

-- The corner at the other end of the key edge: of type 0 for even q, of the other type for odd q.
unfoldable pub outer_of : ℕ → ℕ → Claim
outer_of q g = record { corner = parity q - g; place = (half q - 1) + (parity q - g) }

abbrev pub corner_type : ℕ → ℕ → CornerType
corner_type q g = record {
  offsets = listed (depth_at q g) q;
  outer = outer_of q g;
}

abbrev pub corner_types : ℕ → List CornerType
corner_types q = listed (corner_type q) (suc (parity q))
