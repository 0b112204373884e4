-- What is near by its radius is near, and what an answer says of a region.
use Rattle.std.proofs.Common.{◌≡◌, ℕ, zero, suc, ◌+◌, ◌<◌, ◌≤◌, List, length, slice_index, refl, sym, ap, ◌∙◌, subst, inl, inr, arith}
use Rattle.std.proofs.lemmas.Bool.{cases_lt}
use Rattle.coincidence.specs.Cells.{turn_at, IsLive, live_count, name}
use Rattle.coincidence.specs.Tables.{JoinTable, kind_of}
use Rattle.coincidence.specs.Joined.{IsTable}
use Rattle.region_grower.specs.Tiles.{HasTiles}
use Rattle.region_grower.specs.Ways.{IsWay, IsWithin, AllWithin, IsDart, HasOpen, IsJoined, AllJoined}
use Rattle.region_grower.specs.Regions.{total, AreRadii, RegionState, IsLayer, IsFull, IsClosedRegion, IsRegionFrom}
use Rattle.region_grower.specs.Answers.{IsOpenDart, AreInnerJoined, IsAnswer, IsReady}
use Rattle.region_grower.specs.declared.growth.Answer.{Answer}
use Rattle.region_grower.specs.declared.growth.Answer.TheVariants.{Closed, Layer, Full, Open}
use Rattle.region_grower.proofs.Ways.{zero_or_more, way_to, named_dart}
use Rattle.region_grower.proofs.Left.{unnamed, total_none, total_next, total_le}
use Rattle.region_grower.proofs.Count.{many_live, one_if, one_if_none, one_if_some, live_total}
use Rattle.region_grower.proofs.Tiles.{closed_tiles}

module _ (t : JoinTable) (table : IsTable t) (radii : List ℕ) (are : AreRadii t radii) where
  pub radius_small : (c : ℕ) → IsLive t.cells c → slice_index radii c ≤ 1000000
  radius_small c live =
      let way = way_to t table c live in
      let least = (are c live).least way.0 way.2 in
      let made = table.live_made c live in
      let few = table.few in
      omega (arith, least, way.1, made, few)

  pub within_radius : (n c : ℕ) → IsLive t.cells c → slice_index radii c ≤ n → IsWithin t n c
  within_radius n c live le = record { crossings = slice_index radii c; at_most = le; way = (are c live).way }

  pub radius_within : (n c : ℕ) → IsLive t.cells c → IsWithin t n c → slice_index radii c ≤ n
  radius_within n c live h =
      let least = (are c live).least h.crossings h.way in
      omega (arith, least, h.at_most)

  -- an open dart past the inner cells: there are more live cells than layers
  pub layer_below : (n : ℕ) → AreInnerJoined t n → (c : ℕ) → HasOpen t c → n + 1 < live_count t.cells
  layer_below n inner c opened =
      let live = opened.is_dart.live in
      let r = slice_index radii c in
      elim (cases_lt n r) [
        | inl far ↦ let many = many_live t table radii are r c (are c live) in omega (arith, many, far)
        | inr near ↦
            let joined = inner (c, opened.side) opened.is_dart (within_radius n c live near) in
            absurd (cc (joined.joined, opened.unjoined))
      ]

-- all sides of a cell are joined where its darts are
pub sides_joined : (t : JoinTable) → IsTable t → (c : ℕ) → IsLive t.cells c → ((d : ℕ × ℕ) → IsDart t d → d.0 ≡ c → IsJoined t d) → AllJoined t c
sides_joined t table c live joined i =
    let named = table.name_live c i live in
    let h = joined (name t.cells (c, i)) (named_dart t table (c, i)) (ap (λ p. p.0) named) in
    record { over = h.over; joined = sym (unnamed t table (c, i) live) ∙ h.joined }

-- the three answers
pub layer_is : (before after : RegionState) (n whole : ℕ) → n ≡ before.layers → after.layers ≡ n + 1 → IsReady after.table after.radii n whole → ((c : ℕ) × HasOpen after.table c) → AreInnerJoined after.table n → IsLayer before after (n + 1)
layer_is before after n whole same layers ready opened inner = record {
  number = ap (λ x. x + 1) same;
  below = layer_below after.table ready.table after.radii ready.measured n inner opened.0 opened.1;
  layers = layers;
  inner = λ c m live radius near. sides_joined after.table ready.table c live (λ d is_dart at. inner d is_dart (record { crossings = m; at_most = omega (arith, near); way = subst (IsWay after.table m) (sym at) radius.way }));
  opened = opened;
  corners = ready.corners;
  within = subst (λ x. AllWithin after.table (x + 1)) same ready.within;
}

pub full_is : (before after : RegionState) (n whole most : ℕ) → n ≡ before.layers → after.layers ≡ before.layers → IsReady after.table after.radii n whole → (d : ℕ × ℕ) → IsOpenDart after.table n d → length after.table.origins ≡ most → IsFull before after most most
full_is before after n whole most same layers ready d opened made = record {
  number = refl;
  made = made;
  near = record { cell = d.0; live = opened.dart.live; within = subst (λ x. IsWithin after.table x d.0) same opened.near; opened = record { side = d.1; is_dart = opened.dart; unjoined = opened.unjoined } };
  corners = ready.corners;
  layers = layers;
  within = subst (λ x. AllWithin after.table (x + 1)) same ready.within;
}

pub closed_is : (before after : RegionState) (n whole m : ℕ) → after.layers ≡ before.layers → m ≡ live_count after.table.cells → IsReady after.table after.radii n whole → ((d : ℕ × ℕ) → IsDart after.table d → IsJoined after.table d) → IsClosedRegion before after m
closed_is before after n whole m layers count ready joined = record {
  layers = layers;
  number = count;
  joined = λ c live. sides_joined after.table ready.table c live (λ d is_dart _. joined d is_dart);
  corners = ready.corners;
  tiles = subst (HasTiles after.table.kinds (kind_of after.table.origins 0, 0)) (sym count) (closed_tiles after.table ready.table joined ready.corners);
}

pub region_is : (after : RegionState) (n layers whole : ℕ) → layers ≡ after.layers → n ≤ layers → layers < 1000000 → IsReady after.table after.radii n whole → IsRegionFrom after whole
region_is after n layers whole same le few ready = record {
  region = record {
    table = ready.table;
    long = ready.long;
    radii = ready.measured;
    corners = ready.corners;
    within = λ c live. let h = ready.within c live in record { crossings = h.crossings; at_most = omega (arith, h.at_most, le, same); way = h.way };
    few = omega (arith, few, same);
  };
  whole = ready.whole_corners;
}

-- an answer that is none of the others is that no more cells may be made
pub full_answer : (t : JoinTable) (n most : ℕ) (a : Answer) → ¬ (a ≡ Closed) → ¬ (a ≡ Layer) → ((d : ℕ × ℕ) → ¬ (a ≡ Open d)) → IsAnswer t n most a → IsAnswer t n most Full
full_answer t n most Closed not_closed not_layer not_open answer = absurd (not_closed refl)
full_answer t n most Layer not_closed not_layer not_open answer = absurd (not_layer refl)
full_answer t n most Full not_closed not_layer not_open answer = answer
full_answer t n most (Open d) not_closed not_layer not_open answer = absurd (not_open d refl)

total_ones : (n : ℕ) → total n (λ _. 1) ≡ n
total_ones zero = total_none (λ _. 1)
total_ones (suc n) = omega (arith, total_next n (λ _. 1), total_ones n)

one_at_most : (n : ℕ) → one_if n ≤ 1
one_at_most n = elim (zero_or_more n) [
  | inl e ↦ omega (arith, one_if_none n e)
  | inr some ↦ omega (arith, one_if_some n some)
]

-- there are no more live cells than were made, and than a million
pub live_made_at_most : (t : JoinTable) → IsTable t → live_count t.cells ≤ length t.origins
live_made_at_most t table =
    let less = total_le (length t.cells) (λ c. one_if (turn_at t.cells c)) (λ _. 1) (λ c _. one_at_most (turn_at t.cells c)) in
    omega (arith, less, live_total t.cells, total_ones (length t.cells), table.count)

pub live_few : (t : JoinTable) → IsTable t → live_count t.cells ≤ 1000000
live_few t table =
    omega (arith, live_made_at_most t table, table.few)
