-- Rounds of turns, and what is known where the learner gives up.
use Rattle.std.proofs.Common.{◌≡◌, inl, inr, ℕ, suc, ◌<◌, ◌≤◌, List, [], ◌∷◌, length, Some, refl, sym, subst, arith}
use Rattle.std.specs.Prelude.{slice_get}
use Rattle.std.proofs.lemmas.Bool.{cases_lt}
use Rattle.std.proofs.lemmas.Option.{slice_get_within}
use Rattle.tile_model.specs.Tessellations.{TileKind}
use Rattle.region_grower.specs.Regions.{RegionState}
use Rattle.regular_maker.specs.Regular.{IsRegular}
use Rattle.state_learner.specs.Learning.{NoneAccepted, HasGivenUp, HasClosed}
use Rattle.state_learner.specs.Growing.{AreGrowing, AreSpent, HasTilesOf, layers_of}

module _ (tess : List TileKind) (budget left layers : ℕ) where
  -- at the end of a round all regions have come to the same layer
  pub round_done : (i : ℕ) (regions : List RegionState) → AreGrowing tess budget left layers i regions → length regions ≤ i
      → AreGrowing tess budget left (suc layers) 0 regions
  round_done i regions growing all = record {
    count = growing.count;
    each = growing.each;
    spent = growing.spent;
    before = λ k r is low. absurd (omega (arith, low));
    behind = λ k r is high. growing.before k r is (omega (arith, slice_get_within regions k r is, all));
  }

  pub layers_are : (regions : List RegionState) → AreGrowing tess budget left layers 0 regions → 0 < length regions
      → layers_of regions ≡ layers
  layers_are [] growing some = absurd (omega (arith, some))
  layers_are (r ∷ rs) growing some = growing.behind 0 r refl (omega arith)

  -- so the layers are those of the first
  pub next_round : (regions : List RegionState) → AreGrowing tess budget left layers 0 regions → 0 < length regions
      → AreGrowing tess budget left (layers_of regions) 0 regions
  next_round regions growing some = subst (λ n. AreGrowing tess budget left n 0 regions) (sym (layers_are regions growing some)) growing

  layer_of : (i k : ℕ) (r : RegionState) (regions : List RegionState) → AreGrowing tess budget left layers i regions
      → slice_get regions k ≡ Some r → (layers ≤ r.layers) × (r.layers ≤ suc layers)
  layer_of i k r regions growing is = elim (cases_lt k i) [
    | inl low ↦ (omega (arith, growing.before k r is low), omega (arith, growing.before k r is low))
    | inr high ↦ (omega (arith, growing.behind k r is high), omega (arith, growing.behind k r is high))
  ]

-- where all cells of the budget were made and no candidate is accepted, the learner gives up
pub gives_up : (tess : List TileKind) (budget : ℕ) (regions : List RegionState) → ¬ (IsRegular tess)
    → AreSpent tess budget regions → NoneAccepted tess regions 8 → HasGivenUp tess budget regions
gives_up tess budget regions irregular spent tried = record {
  irregular = irregular;
  count = spent.growing.count;
  each = spent.growing.each;
  spent = omega (arith, spent.growing.spent);
  level = λ j r is k s has. omega (arith, (layer_of tess budget 0 spent.layers spent.ahead j r regions spent.growing is).1, (layer_of tess budget 0 spent.layers spent.ahead k s regions spent.growing has).0);
  tried = tried;
}

pub closes : (tess : List TileKind) (n : ℕ) → ¬ (IsRegular tess) → HasTilesOf tess n → HasClosed tess n
closes tess n irregular tiles = record { irregular = irregular; kind = tiles.kind; is_kind = tiles.is_kind; tiles = tiles.tiles }
