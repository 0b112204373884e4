-- Radii that are level stay so as long as no cell is renamed.
use Rattle.std.proofs.Common.{◌≡◌, ℕ, suc, ◌+◌, ◌<◌, ◌≤◌, List, length, slice_index, Some, None, sym, ap, ◌∙◌, subst, inl, inr, arith}
use Rattle.coincidence.specs.declared.origin.Origin.{Origin}
use Rattle.coincidence.specs.Cells.{turn_at, IsLive, live_count, name}
use Rattle.coincidence.specs.Tables.{JoinTable, joined_to}
use Rattle.coincidence.specs.Joined.{IsTable, HasMade}
use Rattle.region_grower.specs.Ways.{crosses, IsDart}
use Rattle.region_grower.specs.Regions.{total, HasClosedOn, AreLevel, StayLevel}
use Rattle.region_grower.specs.Answers.{IsReady}
use Rattle.region_grower.proofs.Ways.{zero_or_more, own_cell, dart_name, over_dart, join_made}
use Rattle.region_grower.proofs.Steps.{grown_made}
use Rattle.region_grower.proofs.Left.{total_le, total_lt, divides_le}
use Rattle.region_grower.proofs.Count.{one_if, one_if_none, one_if_some, live_total}
use Rattle.region_grower.proofs.Whole.{whole_joined, whole_grown}

-- exact radii are level
pub ready_level : (t : JoinTable) (radii : List ℕ) (n whole gone : ℕ) → live_count t.cells + gone ≡ length t.origins → IsReady t radii n whole → AreLevel t radii whole gone
ready_level t radii n whole gone count ready = record {
  whole = ready.whole_corners;
  no_fewer = omega (arith, count);
  relaxed = λ _ c low live i below e joined near.
      let on = crosses (slice_index radii c) (c, i) e (ready.measured c live).way joined in
      let least = (ready.measured e.0 (over_dart t ready.table (c, i) e joined).live).least (suc (slice_index radii c)) on in
      omega (arith, least);
}

-- only the radii of the cells that were made count
pub level_alike : (t : JoinTable) → IsTable t → (radii radii' : List ℕ) → ((c : ℕ) → c < length t.origins → slice_index radii' c ≡ slice_index radii c) → StayLevel t radii t radii'
level_alike t table radii radii' same n gone h = record {
  whole = h.whole;
  no_fewer = h.no_fewer;
  relaxed = λ all c low live i below e joined near.
      let here = same c (table.live_made c live) in
      let there = same e.0 (table.live_made e.0 (over_dart t table (c, i) e joined).live) in
      let on = h.relaxed all c low live i below e joined (omega (arith, near, here)) in
      omega (arith, here, there, on);
}

-- Corners are closed: if no cell is renamed a live cell stays live, and its darts are joined to the same cells.
module _ (t t' : JoinTable) (table : IsTable t) (table' : IsTable t') (closed : HasClosedOn t t') where
  same_made : length t'.origins ≡ length t.origins
  same_made = ap (λ (os : List Origin). length os) closed.origins

  same_cells : length t'.cells ≡ length t.cells
  same_cells = omega (arith, table.count, table'.count, same_made)

  was_live : (c : ℕ) → IsLive t'.cells c → IsLive t.cells c
  was_live c live = let made = table'.live_made c live in (closed.grown.turns c (omega (arith, made, same_made)) live).was_live

  one_falls : (c : ℕ) → one_if (turn_at t'.cells c) ≤ one_if (turn_at t.cells c)
  one_falls c = elim (zero_or_more (turn_at t'.cells c)) [
    | inl gone ↦ omega (arith, one_if_none (turn_at t'.cells c) gone)
    | inr live ↦ omega (arith, one_if_some (turn_at t'.cells c) live, one_if_some (turn_at t.cells c) (was_live c live))
  ]

  live_after : live_count t'.cells ≡ total (length t.cells) (λ c. one_if (turn_at t'.cells c))
  live_after = live_total t'.cells ∙ ap (λ n. total n (λ c. one_if (turn_at t'.cells c))) same_cells

  fewer_live : live_count t'.cells ≤ live_count t.cells
  fewer_live =
      let less = total_le (length t.cells) (λ c. one_if (turn_at t'.cells c)) (λ c. one_if (turn_at t.cells c)) (λ c _. one_falls c) in
      omega (arith, less, live_after, live_total t.cells)

  still_live : live_count t.cells ≤ live_count t'.cells → (c : ℕ) → IsLive t.cells c → IsLive t'.cells c
  still_live all c live = elim (zero_or_more (turn_at t'.cells c)) [
    | inr live' ↦ live'
    | inl gone ↦
        let made = table.live_made c live in
        let one = one_if_some (turn_at t.cells c) live in
        let none = one_if_none (turn_at t'.cells c) gone in
        let less = total_lt (length t.cells) (λ c. one_if (turn_at t'.cells c)) (λ c. one_if (turn_at t.cells c)) (λ c _. one_falls c) c (omega (arith, made, table.count)) (omega (arith, one, none)) in
        absurd (omega (arith, all, less, live_after, live_total t.cells))
  ]

  pub level_closed : (radii : List ℕ) → StayLevel t radii t' radii
  level_closed radii n gone h =
      let fewer = fewer_live in
      let before = h.no_fewer in
      record {
        whole = whole_grown t t' table table' closed.grown n h.whole;
        no_fewer = omega (arith, before, fewer, same_made);
        relaxed = λ all c low live i below e joined near.
            let was = was_live c live in
            let fallen = closed.grown.turns c (table.live_made c was) live in
            let less = divides_le (turn_at t.cells c) (turn_at t'.cells c) was fallen.divides in
            let is_dart : IsDart t (c, i) = record { live = was; below = omega (arith, below, less) } in
            let over = whole_joined t table (c, i) is_dart (h.whole.whole (c, i) is_dart low) in
            let own = dart_name t' table' (c, i) (record { live = live; below = below }) in
            let kept : joined_to t' (c, i) ≡ Some (name t'.cells over.over) = subst (λ p. joined_to t' p ≡ Some (name t'.cells over.over)) own (closed.grown.kept (c, i) over.over over.joined) in
            let same : name t'.cells over.over ≡ e = cc (kept, joined) in
            let live_over = still_live (omega (arith, all, before, same_made)) over.over.0 (over_dart t table (c, i) over.over over.joined).live in
            let cell : over.over.0 ≡ e.0 = sym (own_cell t' table' over.over.0 over.over.1 live_over) ∙ ap (λ p. p.0) same in
            let on = h.relaxed (omega (arith, all, before, fewer, same_made)) c low was i (omega (arith, below, less)) over.over over.joined near in
            subst (λ x. slice_index radii x ≤ slice_index radii c + 1) cell on;
      }

-- A cell is made: the darts of whole corners stay joined to the same darts.
pub level_made : (t t' : JoinTable) → IsTable t → IsTable t' → (d : ℕ × ℕ) (w : ℕ) → HasMade t t' d w → IsDart t d → joined_to t d ≡ None → (radii : List ℕ) → StayLevel t radii t' radii
level_made t t' table table' d w made is_dart unjoined radii n gone h = record {
  whole = whole_grown t t' table table' (grown_made t t' table d w made is_dart unjoined) n h.whole;
  no_fewer = omega (arith, h.no_fewer, made.live, made.count);
  relaxed = λ all c low live i below e joined near.
      let old : c < w = omega (arith, low, h.whole.made, made.number) in
      let turn = made.turns c old in
      let was : IsDart t (c, i) = record { live = subst (λ x. 0 < x) turn live; below = subst (λ x. i < x) turn below } in
      let over = whole_joined t table (c, i) was (h.whole.whole (c, i) was low) in
      let still = join_made t t' table d w made is_dart unjoined (c, i) over.over over.joined in
      let same : over.over ≡ e = cc (still, joined) in
      let on = h.relaxed (omega (arith, all, made.live, made.count)) c low was.live i was.below over.over over.joined near in
      subst (λ p. slice_index radii p.0 ≤ slice_index radii c + 1) same on;
}
