-- One turn of a region.
use Rattle.std.proofs.Common.{◌≡◌, ◌≢◌, inl, inr, ℕ, zero, suc, length-set, ◌+◌, ◌<◌, ◌≤◌, List, length, set, sum_by, Some, sym, ◌∙◌, ap, subst, arith}
use Rattle.std.specs.Prelude.{slice_get, ◌==◌, if◌then◌else◌}
use Rattle.std.proofs.lemmas.List.Sums.{sum_by-set}
use Rattle.std.proofs.lemmas.Option.{get_or_from_slice_get, slice_get_within}
use Rattle.tile_model.specs.Tessellations.{TileKind}
use Rattle.coincidence.specs.declared.table.Cell.{Cell}
use Rattle.coincidence.specs.Cells.{live_count}
use Rattle.coincidence.specs.Tables.{JoinTable, kind_of}
use Rattle.coincidence.specs.Joined.{IsTable}
use Rattle.region_grower.specs.Ways.{HasOpen}
use Rattle.region_grower.specs.Tiles.{HasTiles}
use Rattle.region_grower.specs.Regions.{RegionState}
use Rattle.region_grower.specs.Calls.{IsGrownFrom}
use Rattle.state_learner.specs.Learning.{EachRegion, IsOpenFrom, made}
use Rattle.state_learner.specs.Growing.{AreGrowing, AreSpent, HasTilesOf}
use Rattle.state_learner.proofs.Lists.{get_set, part_at_most, ones_at_most}

-- what holds of each other region and of the one that is set holds of each
each_set : (P : ℕ → RegionState → Type 0) (regions : List RegionState) (i : ℕ) (r : RegionState) → i < length regions
    → ((k : ℕ) (s : RegionState) → k ≢ i → slice_get regions k ≡ Some s → P k s) → P i r → EachRegion (set regions i r) P
each_set P regions i r inside others new k s is = elim (get_set regions i k r s inside is) [
  | inl h ↦ subst (λ x. P k x) (sym h.1) (subst (λ x. P x r) (sym h.0) new)
  | inr h ↦ others k s h.0 h.1
]

one_at_most : (n : ℕ) → (if n == 0 then 0 else 1) ≤ 1
one_at_most zero = omega arith
one_at_most (suc n) = grind arith

-- no more cells are live than were made
live_at_most : (t : JoinTable) → IsTable t → live_count t.cells ≤ length t.origins
live_at_most t table = omega (arith, ones_at_most (λ (x : Cell). if x.turn == 0 then 0 else 1) (λ x. one_at_most x.turn) t.cells, table.count)

-- the cells of all regions, and those that are left, add up to the same after a turn
pub cells_kept : (regions : List RegionState) (i left left' : ℕ) (before after : RegionState)
    → slice_get regions i ≡ Some before → left' + made after ≡ left + made before
    → sum_by made (set regions i after) + left' ≡ sum_by made regions + left
cells_kept regions i left left' before after there cells =
    omega (arith, cells, sum_by-set made regions i after before (slice_get_within regions i before there), ap made (get_or_from_slice_get regions i before before there))

module _ (tess : List TileKind) (budget left left' layers i : ℕ) (regions : List RegionState) (before after : RegionState)
    (growing : AreGrowing tess budget left layers i regions) (there : slice_get regions i ≡ Some before)
    (kinds : after.table.kinds ≡ before.table.kinds)
    (start : kind_of after.table.origins 0 ≡ kind_of before.table.origins 0)
    (from : (ks : List TileKind) (k : ℕ) → IsGrownFrom ks k before → IsGrownFrom ks k after)
    (cells : left' + made after ≡ left + made before) where
  inside : i < length regions
  inside = slice_get_within regions i before there

  still_open : ((c : ℕ) × HasOpen after.table c) → IsOpenFrom tess i after
  still_open opened = record {
    kinds = kinds ∙ (growing.each i before there).kinds;
    start = start ∙ (growing.each i before there).start;
    calls = from tess i (growing.each i before there).calls;
    opened = opened;
  }

  -- the region has come a layer further
  pub has_turned : ((c : ℕ) × HasOpen after.table c) → after.layers ≡ before.layers + 1
      → AreGrowing tess budget left' layers (i + 1) (set regions i after)
  has_turned opened further = record {
    count = length-set regions i after ∙ growing.count;
    each = each_set (IsOpenFrom tess) regions i after inside (λ k s _ is. growing.each k s is) (still_open opened);
    spent = omega (arith, cells_kept regions i left left' before after there cells, growing.spent);
    before = each_set (λ k s. k < i + 1 → s.layers ≡ suc layers) regions i after inside
        (λ k s other is low. growing.before k s is (omega (arith, other, low)))
        (λ _. omega (arith, further, growing.behind i before there (omega arith)));
    behind = each_set (λ k s. i + 1 ≤ k → s.layers ≡ layers) regions i after inside
        (λ k s other is high. growing.behind k s is (omega (arith, high)))
        (λ high. absurd (omega (arith, high)));
  }

  -- no more cells may be made
  pub has_stopped : ((c : ℕ) × HasOpen after.table c) → after.layers ≡ before.layers → left' ≡ 0
      → AreSpent tess budget (set regions i after)
  has_stopped opened same none = record {
    layers = layers;
    ahead = i;
    growing = record {
      count = length-set regions i after ∙ growing.count;
      each = each_set (IsOpenFrom tess) regions i after inside (λ k s _ is. growing.each k s is) (still_open opened);
      spent = omega (arith, cells_kept regions i left left' before after there cells, growing.spent, none);
      before = each_set (λ k s. k < i → s.layers ≡ suc layers) regions i after inside
          (λ k s other is low. growing.before k s is low)
          (λ low. absurd (omega (arith, low)));
      behind = each_set (λ k s. i ≤ k → s.layers ≡ layers) regions i after inside
          (λ k s other is high. growing.behind k s is high)
          (λ _. same ∙ growing.behind i before there (omega arith));
    };
  }

  -- all tiles are there
  pub has_closed : (n : ℕ) → HasTiles after.table.kinds (kind_of after.table.origins 0, 0) n → HasTilesOf tess n
  has_closed n tiles = record {
    kind = i;
    is_kind = omega (arith, inside, growing.count);
    tiles = subst (λ k. HasTiles tess (k, 0) n) (start ∙ (growing.each i before there).start)
        (subst (λ ks. HasTiles ks (kind_of after.table.origins 0, 0) n) (kinds ∙ (growing.each i before there).kinds) tiles);
  }

  -- the layers are fewer than the cells of the budget
  pub layers_within : after.layers ≡ before.layers + 1 → after.layers < live_count after.table.cells → IsTable after.table
      → suc layers < budget
  layers_within further below table =
      omega (arith, further, below, live_at_most after.table table, part_at_most made regions i before there, cells, growing.spent, growing.behind i before there (omega arith))
