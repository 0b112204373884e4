-- What the numbers p and q of an infinite regular tessellation are, and on which side of the lowest
-- tile of its corner a claim lies.
use Rattle.std.proofs.Common.{◌≡◌, ℕ, suc, ◌+◌, ◌-◌, ◌*◌, ◌<◌, ◌≤◌, ◌⊎◌, inl, inr, subst, arith}
use Rattle.std.proofs.lemmas.Bool.{cases_eq}
use Rattle.tree_model.specs.declared.Claim.{Claim}
use Rattle.regular_maker.specs.Regular.{IsInfinite, IsSymbol}
use Rattle.regular_maker.specs.Corners.{half, parity, outer_of}
use Rattle.regular_maker.specs.States.{lowest, beyond}
use Rattle.regular_maker.specs.Pairs.{IsBehind, IsAhead}

-- One number is 3 and the other at least 6, or both are at least 4.
pub record IsShape (p q : ℕ) : Type 0 where
  pub sides : (3 ≤ p) × (p ≤ 64)
  pub tiles : (3 ≤ q) × (q ≤ 64)
  pub halves : q ≡ 2 * half q + parity q
  pub parity : parity q < 2
  pub cases : ((p ≡ 3) × (6 ≤ q)) ⊎ (((q ≡ 3) × (6 ≤ p)) ⊎ ((4 ≤ p) × (4 ≤ q)))

pub halves : (q : ℕ) → (q ≡ 2 * half q + parity q) × (parity q < 2)
unfolding half parity
halves q = (omega arith, omega arith)

triangles : (p q : ℕ) → p ≡ 3 → IsInfinite p q → 6 ≤ q
triangles p q e h =
    let i : 4 ≤ (3 - 2) * (q - 2) = subst (λ n. 4 ≤ (n - 2) * (q - 2)) e h in
    omega (arith, i)

threes : (p q : ℕ) → q ≡ 3 → IsInfinite p q → 6 ≤ p
threes p q e h =
    let i : 4 ≤ (p - 2) * (3 - 2) = subst (λ n. 4 ≤ (p - 2) * (n - 2)) e h in
    omega (arith, i)

pub shape_of : (p q : ℕ) → IsSymbol p q → IsShape p q
shape_of p q symbol = record {
  sides = symbol.sides;
  tiles = symbol.tiles;
  halves = (halves q).0;
  parity = (halves q).1;
  cases = which (cases_eq p 3) (cases_eq q 3);
}
  where
    which : (p ≡ 3) ⊎ (p ≡ 3 → ⊥) → (q ≡ 3) ⊎ (q ≡ 3 → ⊥)
        → ((p ≡ 3) × (6 ≤ q)) ⊎ (((q ≡ 3) × (6 ≤ p)) ⊎ ((4 ≤ p) × (4 ≤ q)))
    which (inl e) _ = inl (e, triangles p q e symbol.infinite)
    which (inr other) (inl e) = inr (inl (e, threes p q e symbol.infinite))
    which (inr other) (inr more) =
        let s = symbol.sides in
        let t = symbol.tiles in
        inr (inr (omega (arith, other, s), omega (arith, more, t)))

-- a claim at the lowest tile of its corner or behind it
pub record IsRight (q : ℕ) (c : Claim) : Type 0 where
  pub corner : c.corner ≤ parity q
  pub behind : half q + c.corner ≤ c.place
  pub place : c.place < q

-- a claim at the lowest tile of its corner or before it
pub record IsLeft (q : ℕ) (c : Claim) : Type 0 where
  pub corner : c.corner ≤ parity q
  pub ahead : c.place ≤ half q

pub right_of : (q : ℕ) (c : Claim) → IsBehind q c → IsRight q c
right_of q c h = record { corner = h.corner; behind = omega (arith, h.behind); place = h.place }

pub left_of : (q : ℕ) (c : Claim) → IsAhead q c → IsLeft q c
left_of q c h = record { corner = h.corner; ahead = omega (arith, h.ahead) }

module _ (p q : ℕ) (shape : IsShape p q) where
  -- a tile lies opposite to that at place 0
  pub half_least : 1 ≤ half q
  half_least = omega (arith, shape.tiles, shape.halves, shape.parity)

  pub lowest_right : IsRight q (lowest q)
  unfolding lowest
  lowest_right = record {
    corner = omega arith;
    behind = omega arith;
    place = omega (arith, shape.tiles, shape.halves, shape.parity);
  }

  pub lowest_left : IsLeft q (lowest q)
  unfolding lowest
  lowest_left = record { corner = omega arith; ahead = omega arith }

  pub beyond_right : (g : ℕ) → g ≤ parity q → IsRight q (beyond q g)
  unfolding beyond outer_of
  beyond_right g h = record {
    corner = omega arith;
    behind = omega (arith, half_least);
    place = omega (arith, half_least, shape.halves, shape.parity);
  }

  pub outer_left : (g : ℕ) → g ≤ parity q → IsLeft q (outer_of q g)
  unfolding outer_of
  outer_left g h = record { corner = omega arith; ahead = omega (arith, half_least, shape.parity) }

  -- a claim behind the lowest tile has not the first place, and one before it not the last
  pub right_not_first : (c : Claim) → IsRight q c → 1 ≤ c.place
  right_not_first c h = omega (arith, h.behind, half_least)

  pub left_not_last : (c : Claim) → IsLeft q c → suc c.place < q
  left_not_last c h = omega (arith, h.ahead, shape.tiles, shape.halves, shape.parity)
