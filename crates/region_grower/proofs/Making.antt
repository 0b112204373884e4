-- What stands while cells are made.
use Rattle.std.proofs.Common.{◌≡◌, ℕ, suc, ◌+◌, ◌<◌, ◌≤◌, List, [], ◌∷◌, ◌++◌, length, slice_index, sym, ap, ◌∙◌, subst, inl, inr, arith, get_or, get_or-set_same, get_or-set_other}
use Rattle.std.proofs.lemmas.Bool.{cases_lt}
use Rattle.std.proofs.lemmas.List.{length-set, length_push, get_or_append_left, get_or_read}
use Rattle.std.proofs.Math.ListN.{set}
use Rattle.coincidence.specs.Cells.{IsLive}
use Rattle.coincidence.specs.Tables.{JoinTable, origin_at}
use Rattle.coincidence.specs.Joined.{IsTable, HasMade}
use Rattle.region_grower.specs.Ways.{starts, crosses, IsWithin}
use Rattle.region_grower.specs.Growth.{HasGrown}
use Rattle.region_grower.specs.Regions.{HasClosedOn, IsGrowing}
use Rattle.region_grower.specs.Answers.{IsReady, IsWanted, IsOpenDart}
use Rattle.region_grower.proofs.Steps.{grown_made, within_grown}

pub ready_growing : (t : JoinTable) (radii : List ℕ) (n whole : ℕ) → IsReady t radii n whole → IsGrowing t radii n
ready_growing t radii n whole ready = record {
  table = ready.table;
  long = ready.long;
  first = let least = (ready.measured 0 ready.table.first_live).least 0 starts in omega (arith, least);
  near = λ c live. record { crossings = slice_index radii c; at_most = omega arith; way = (ready.measured c live).way };
  within = ready.within;
}

-- a dart that is open and near is one across which a cell is to be made
pub open_wanted : (t : JoinTable) (radii : List ℕ) (n whole : ℕ) (d : ℕ × ℕ) → IsReady t radii n whole → IsOpenDart t n d → IsWanted t radii n d
open_wanted t radii n whole d ready opened = record {
  dart = opened.dart;
  unjoined = opened.unjoined;
  near = let least = (ready.measured d.0 opened.dart.live).least opened.near.crossings opened.near.way in omega (arith, least, opened.near.at_most);
}

-- radii may be added behind
pub growing_longer : (t : JoinTable) (radii radii' : List ℕ) (n : ℕ) → length radii ≤ length radii' → ((c : ℕ) → c < length radii → slice_index radii' c ≡ slice_index radii c) → IsGrowing t radii n → IsGrowing t radii' n
growing_longer t radii radii' n longer same h = record {
  table = h.table;
  long = omega (arith, h.long, longer);
  first = same 0 (let some = h.table.some in omega (arith, some, h.long)) ∙ h.first;
  near = λ c live. let made = h.table.live_made c live in subst (λ r. IsWithin t r c) (sym (same c (omega (arith, made, h.long)))) (h.near c live);
  within = h.within;
}

-- so a radius that is far may be
module _ (t : JoinTable) (radii radii' : List ℕ) (n far : ℕ) (pushed : radii' ≡ radii ++ far ∷ []) (growing : IsGrowing t radii n) where
  pub pushed_same : (c : ℕ) → c < length radii → slice_index radii' c ≡ slice_index radii c
  pushed_same c low = ap (λ rs. slice_index rs c) pushed ∙ get_or_append_left radii (far ∷ []) 0 c low

  pub pushed_length : length radii' ≡ length radii + 1
  pushed_length = ap (λ (rs : List ℕ). length rs) pushed ∙ length_push radii far

  pub growing_pushed : IsGrowing t radii' n
  growing_pushed = growing_longer t radii radii' n (omega (arith, pushed_length)) pushed_same growing

  pub wanted_pushed : (d : ℕ × ℕ) → IsWanted t radii n d → IsWanted t radii' n d
  wanted_pushed d wanted =
      let made = growing.table.live_made d.0 wanted.dart.live in
      record { dart = wanted.dart; unjoined = wanted.unjoined; near = subst (λ r. r ≤ n) (sym (pushed_same d.0 (omega (arith, made, growing.long)))) wanted.near }

  -- the radius of a live cell, as it is read
  pub pushed_read : (d : ℕ × ℕ) (cell r : ℕ) → IsLive t.cells d.0 → cell ≡ d.0 → r ≡ get_or radii' cell r → r ≡ slice_index radii' d.0
  pushed_read d cell r live same read =
      let made = growing.table.live_made d.0 live in
      get_or_read radii' cell r (omega (arith, same, made, growing.long, pushed_length)) read 0 ∙ ap (slice_index radii') same

-- corners may be closed
pub growing_closed : (t t' : JoinTable) (radii : List ℕ) (n : ℕ) → IsTable t' → HasClosedOn t t' → IsGrowing t radii n → IsGrowing t' radii n
growing_closed t t' radii n table' closed h =
    let same = ap (λ os. length os) closed.origins in
    let was : (c : ℕ) → IsLive t'.cells c → IsLive t.cells c = λ c live. let made = table'.live_made c live in (closed.grown.turns c (omega (arith, made, same)) live).was_live in
    record {
      table = table';
      long = omega (arith, h.long, same);
      first = h.first;
      near = λ c live. within_grown t t' table' closed.grown (slice_index radii c) c live (h.near c (was c live));
      within = λ c live. within_grown t t' table' closed.grown (n + 1) c live (h.within c (was c live));
    }

-- A cell may be made across a dart of a cell that is near: it lies one crossing farther away.
module _ (t t' : JoinTable) (radii : List ℕ) (n : ℕ) (growing : IsGrowing t radii n) (table' : IsTable t') (d : ℕ × ℕ) (w : ℕ) (wanted : IsWanted t radii n d) (made : HasMade t t' d w) (room : w < length radii) where
  abbrev r : ℕ
  r = slice_index radii d.0

  abbrev after : List ℕ
  after = set radii w (r + 1)

  grown : HasGrown t t'
  grown = grown_made t t' growing.table d w made wanted.dart wanted.unjoined

  some : 0 < w
  some = let first = growing.table.some in omega (arith, first, made.number)

  old : (c : ℕ) → c < w → slice_index after c ≡ slice_index radii c
  old c low = get_or-set_other radii w c (r + 1) 0 (λ e. omega (arith, e, low))

  -- so many crossings lead to the cell of the dart, and one more to the new one
  new_way : (m : ℕ) → IsWithin t m d.0 → IsWithin t' (m + 1) w
  new_way m h =
      let there = growing.table.live_made d.0 wanted.dart.live in
      let live' : IsLive t'.cells d.0 = subst (λ x. 0 < x) (sym (made.turns d.0 (omega (arith, there, made.number)))) wanted.dart.live in
      let near = within_grown t t' table' grown m d.0 live' h in
      record { crossings = suc near.crossings; at_most = omega (arith, near.at_most); way = crosses near.crossings d (w, (origin_at t'.origins w).own) near.way made.joined }

  each : (P : ℕ → Type 0) → P w → ((c : ℕ) → c < w → IsLive t'.cells c → IsLive t.cells c → P c) → (c : ℕ) → IsLive t'.cells c → P c
  each P at_new others c live = elim (cases_lt c w) [
    | inl low ↦ others c low live (subst (λ x. 0 < x) (made.turns c low) live)
    | inr past ↦
        let there = table'.live_made c live in
        let e : c ≡ w = omega (arith, past, there, made.count, made.number) in
        subst P (sym e) at_new
  ]

  pub growing_made : IsGrowing t' after n
  growing_made = record {
    table = table';
    long = omega (arith, room, made.count, made.number, length-set radii w (r + 1));
    first = old 0 some ∙ growing.first;
    near = each (λ c. IsWithin t' (slice_index after c) c)
        (subst (λ x. IsWithin t' x w) (sym (get_or-set_same radii w (r + 1) 0 room)) (new_way r (growing.near d.0 wanted.dart.live)))
        (λ c low live was. subst (λ x. IsWithin t' x c) (sym (old c low)) (within_grown t t' table' grown (slice_index radii c) c live (growing.near c was)));
    within = each (λ c. IsWithin t' (n + 1) c)
        (let h = growing.near d.0 wanted.dart.live in new_way n (record { crossings = h.crossings; at_most = omega (arith, h.at_most, wanted.near); way = h.way }))
        (λ c low live was. within_grown t t' table' grown (n + 1) c live (growing.within c was));
  }
