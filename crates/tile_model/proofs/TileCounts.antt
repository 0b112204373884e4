-- The tiles of one sort have one number.
use Rattle.std.proofs.Common.{◌≡◌, ℕ, ◌<◌, ◌≤◌, ◌⊎◌, inl, inr, List, sym, subst, arith}
use Rattle.std.proofs.lemmas.Bool.{cases_lt}
use Rattle.tile_model.proofs.Pigeonhole.{pigeonhole}
use Rattle.tile_model.specs.declared.Letter.{Letter}
use Rattle.tile_model.specs.Tessellations.{TileKind, IsType}
use Rattle.tile_model.specs.Validity.{IsValid}
use Rattle.tile_model.specs.Relation.{AreAtSameTile}
use Rattle.tile_model.specs.TileCounts.{walk_at, HaveTiles}
use Rattle.tile_model.proofs.SameTile.{same_tile_back, same_tile_on}

module _
    (kinds : List TileKind) (valid : IsValid kinds) (d : ℕ × ℕ) (is_type : IsType kinds d)
    (IsOfSort : List Letter → Type 0)
  where
    module _ (m n : ℕ) (h : HaveTiles kinds d IsOfSort m) (g : HaveTiles kinds d IsOfSort n) where
      -- a walk of the other choice that is at the tile of walk i, if i is below m
      chosen :
          (i : ℕ) → (i < m) ⊎ (m ≤ i) →
          (j : ℕ) × (i < m → (j < n) × AreAtSameTile kinds d (walk_at g.walks j) (walk_at h.walks i))
      chosen i (inl lt) =
          let (j, below, same) = g.whole (walk_at h.walks i) (h.of_sort i lt) in
          (j, λ _. (below, same))
      chosen i (inr le) = (0, λ lt. absurd (omega (arith, le, lt)))

      abbrev place : ℕ → ℕ
      place i = (chosen i (cases_lt i m)).0

      one :
          (i j : ℕ) → i < m → j < m → place i ≡ place j → i ≡ j
      one i j p q e =
          let first = ((chosen i (cases_lt i m)).1 p).1 in
          let second =
          subst (λ l. AreAtSameTile kinds d (walk_at g.walks l) (walk_at h.walks j)) (sym e)
          ((chosen j (cases_lt j m)).1 q).1 in
          h.apart i j p q
          (same_tile_on kinds valid d is_type (same_tile_back kinds valid d is_type first) second)

      -- No two walks of the one choice are at one tile, so the other has at least as many.
      no_fewer : m ≤ n
      no_fewer = pigeonhole n m place (λ i p. ((chosen i (cases_lt i m)).1 p).0) one

    pub one_count :
        (m n : ℕ) → HaveTiles kinds d IsOfSort m → HaveTiles kinds d IsOfSort n → m ≡ n
    one_count m n h g = omega (arith, no_fewer m n h g, no_fewer n m g h)
