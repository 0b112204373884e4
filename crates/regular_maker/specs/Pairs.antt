-- What holds of the pair of each state of {p,q}: the claims lie on the two sides of the lowest tile
-- of their corners, that of the least depth at place m, and the run of Right sides ends before that
-- of Left sides begins.
use Rattle.std.specs.Prelude.{ℕ, suc, ◌+◌, ◌<◌, ◌≤◌, ◌⊎◌}
use Rattle.tree_model.specs.declared.Claim.{Claim}
use Rattle.regular_maker.specs.Corners.{half, parity}
use Rattle.regular_maker.specs.declared.symbol.Pair.{Pair}

-- a claim of a corner type, at a place behind the lowest tile
pub record IsBehind (q : ℕ) (c : Claim) : Type 0 where
  pub corner : c.corner ≤ parity q
  pub behind : half q + c.corner < c.place
  pub place : c.place < q

-- a claim of a corner type, at a place before the lowest tile
pub record IsAhead (q : ℕ) (c : Claim) : Type 0 where
  pub corner : c.corner ≤ parity q
  pub ahead : c.place < half q

-- For triangles: one of the claims is next to the lowest tile, or both are next but one at most.
abbrev pub AreNear : ℕ → Claim → Claim → Type 0
AreNear q c d =
    (c.place ≤ suc (half q + c.corner)) ⊎ ((half q ≤ suc d.place)
    ⊎ ((c.place ≤ 2 + (half q + c.corner)) × (half q ≤ 2 + d.place)))

-- x may be the pair of a state
pub record IsPair (p q : ℕ) (x : Pair) : Type 0 where
  pub first : IsBehind q x.first
  pub last : IsAhead q x.last
  pub apart : (4 ≤ p) ⊎ AreNear q x.first x.last
