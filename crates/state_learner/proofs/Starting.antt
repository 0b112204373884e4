-- The regions of one cell.
use Rattle.std.proofs.Common.{◌≡◌, length-append, inl, inr, ℕ, ◌+◌, min, List, [], ◌∷◌, ◌++◌, length, sym, subst, arith}
use Rattle.std.proofs.lemmas.List.Sums.{sum_by_push}
use Rattle.tile_model.specs.Tessellations.{TileKind}
use Rattle.coincidence.specs.Joined.{IsTable, IsFirst}
use Rattle.region_grower.specs.Regions.{RegionState}
use Rattle.region_grower.specs.Calls.{IsGrownFrom}
use Rattle.state_learner.specs.Learning.{EachRegion, IsOpenFrom, made}
use Rattle.state_learner.specs.Growing.{AreStarted, AreGrowing}
use Rattle.state_learner.proofs.Lists.{get_push}

-- what holds of each region of a list and of one behind them holds of each region of both
each_push : (P : ℕ → RegionState → Type 0) (regions : List RegionState) (r : RegionState)
    → EachRegion regions P → P (length regions) r → EachRegion (regions ++ r ∷ []) P
each_push P regions r each new k s is = elim (get_push regions k r s is) [
  | inl h ↦ subst (λ x. P k x) (sym h.1) (subst (λ x. P x r) (sym h.0) new)
  | inr h ↦ each k s h
]

-- a region of one cell has a dart that is not joined
first_open : (tess : List TileKind) (k : ℕ) (r : RegionState) → IsFirst tess k r.table → IsTable r.table → IsGrownFrom tess k r → IsOpenFrom tess k r
first_open tess k r first table from = record {
  kinds = first.same_kinds;
  start = first.kind;
  calls = from;
  opened = (0, record { side = 0; is_dart = record { live = table.first_live; below = omega (arith, table.first_live) }; unjoined = first.unjoined (0, 0) });
}

-- one more region is started
pub started_push : (tess : List TileKind) (n : ℕ) (regions : List RegionState) (r : RegionState)
    → AreStarted tess n regions → IsFirst tess n r.table → IsTable r.table → IsGrownFrom tess n r → r.layers ≡ 0
    → AreStarted tess (n + 1) (regions ++ r ∷ [])
started_push tess n regions r started first table from none = record {
  count = omega (arith, length-append regions (r ∷ []), started.count);
  each = each_push (IsOpenFrom tess) regions r started.each (subst (λ k. IsOpenFrom tess k r) (sym started.count) (first_open tess n r first table from));
  cells = omega (arith, sum_by_push made regions r, started.cells, first.count);
  layers = each_push (λ _ s. s.layers ≡ 0) regions r started.layers none;
}

-- regions that are started are ready to be grown
pub started_growing : (tess : List TileKind) (budget left : ℕ) (regions : List RegionState)
    → AreStarted tess (min budget (length tess)) regions → length regions + left ≡ budget
    → AreGrowing tess budget left 0 0 regions
started_growing tess budget left regions started split = record {
  count = omega (arith, started.count);
  each = started.each;
  spent = omega (arith, started.cells, started.count, split);
  before = λ k r is low. absurd (omega (arith, low));
  behind = λ k r is high. started.layers k r is;
}
