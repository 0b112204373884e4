-- Radii: where no radius is over one more than its neighbours', each is the least number of crossings.
use Rattle.std.proofs.Common.{◌≡◌, ℕ, suc, ◌+◌, ◌<◌, ◌≤◌, List, length, slice_index, sum, sum_by, true, get_or-set_same, get_or-set_other, Some, sym, ap, ◌∙◌, subst, inl, inr, arith}
use Rattle.std.proofs.lemmas.Bool.{cases_lt, cases_eq}
use Rattle.std.proofs.lemmas.List.{length-set, map-id}
use Rattle.std.proofs.lemmas.List.Sums.{sum_by-set, sum-map}
use Rattle.std.proofs.Math.ListN.{set}
use Rattle.region_grower.specs.Passes.{HasLowered}
use Rattle.coincidence.specs.Cells.{IsLive, name}
use Rattle.coincidence.specs.Tables.{JoinTable, joined_to}
use Rattle.coincidence.specs.Joined.{IsTable}
use Rattle.region_grower.specs.Ways.{IsWay, starts, crosses, IsRadius}
use Rattle.region_grower.specs.Regions.{AreRadii, AreReached, AreNear, IsRelaxed}
use Rattle.region_grower.proofs.Ways.{zero_or_more, own_cell, way_to, joined_named, over_dart}

module _ (t : JoinTable) (table : IsTable t) (radii : List ℕ) (long : length t.origins ≤ length radii) (first : slice_index radii 0 ≡ 0) (relaxed : (c : ℕ) → IsLive t.cells c → IsRelaxed t radii c) where
  -- no way is shorter than the radius, and none of a way's cells is far
  below_way : {n c : ℕ} → IsWay t n c → n < 1000000 → slice_index radii c ≤ n
  below_way starts small = omega (arith, first)
  below_way (crosses n d e way joined) small =
      let rest = below_way way (omega (arith, small)) in
      let live = (table.joined_name d e joined).0 in
      let near = name t.cells d in
      let at = own_cell t table d.0 d.1 live in
      let named = table.named d in
      let on = subst (λ c. slice_index radii c < 1000000 → slice_index radii e.0 ≤ slice_index radii c + 1) at (relaxed near.0 named.live near.1 named.below e (joined_named t table d e joined)) (omega (arith, rest, small)) in
      omega (arith, rest, on)

  -- the radius of a live cell is as small as its number
  small_radius : (c : ℕ) → IsLive t.cells c → slice_index radii c < 1000000
  small_radius c live =
      let there = way_to t table c live in
      let made = table.live_made c live in
      let few = table.few in
      let short = there.1 in
      let within = below_way there.2 (omega (arith, short, made, few)) in
      omega (arith, within, short, made, few)

  -- a way that is as long as the radius is a shortest one
  exact : (c : ℕ) → IsLive t.cells c → IsWay t (slice_index radii c) c → IsRadius t c (slice_index radii c)
  exact c live way = record {
    way = way;
    least = λ n on. elim (cases_lt n 1000000) [
      | inl small ↦ below_way on small
      | inr large ↦ let near = small_radius c live in omega (arith, near, large)
    ];
  }

  -- each live cell has its radius
  pub are_radii : AreReached t radii → AreRadii t radii
  are_radii reached c live = let made = table.live_made c live in exact c live (reached c (omega (arith, made, long)) (small_radius c live))

  -- so it has where no live cell lies farther away than its radius says
  pub near_radii : AreNear t radii → AreRadii t radii
  near_radii near c live =
      let h = near c live in
      let small = small_radius c live in
      let least = below_way h.way (omega (arith, h.at_most, small)) in
      let e : h.crossings ≡ slice_index radii c = omega (arith, h.at_most, least) in
      exact c live (subst (λ n. IsWay t n c) e h.way)

-- where all radii but the first are far, what is reached is the first cell
pub forgotten_reached : (t : JoinTable) (radii : List ℕ) → slice_index radii 0 ≡ 0 → ((c : ℕ) → 0 < c → c < length radii → slice_index radii c ≡ 1000000) → (c : ℕ) → c < length radii → slice_index radii c < 1000000 → IsWay t (slice_index radii c) c
forgotten_reached t radii first others c made near = elim (zero_or_more c) [
  | inl e ↦ subst (λ x. IsWay t (slice_index radii x) x) (sym e) (subst (λ n. IsWay t n 0) (sym first) starts)
  | inr some ↦ absurd (omega (arith, others c some made, near))
]

sum_set : (xs : List ℕ) (i y : ℕ) → i < length xs → sum (set xs i y) + slice_index xs i ≡ sum xs + y
sum_set xs i y there =
    let all : (zs : List ℕ) → sum zs ≡ sum_by (λ z. z) zs = λ zs. ap (λ (v : List ℕ). sum v) (sym (map-id zs)) ∙ sum-map (λ z. z) zs in
    omega (arith, all (set xs i y), all xs, sum_by-set (λ z. z) xs i y 0 there)

-- the radius across a dart is lowered to one more
pub lowers : {D : List ℕ → Type 0} (t : JoinTable) (radii : List ℕ) (d e : ℕ × ℕ) → IsTable t → length t.origins ≤ length radii → joined_to t d ≡ Some e → slice_index radii d.0 < 1000000 → slice_index radii d.0 + 1 < slice_index radii e.0 → HasLowered t radii (set radii e.0 (slice_index radii d.0 + 1)) true D
lowers t radii d e table long joined near less =
    let r = slice_index radii d.0 in
    let live = (table.joined_name d e joined).0 in
    let there = table.live_made d.0 live in
    let there' = table.live_made e.0 (over_dart t table d e joined).live in
    let next : suc r ≡ r + 1 = omega arith in
    record {
      long = length-set radii e.0 (r + 1);
      reached = λ reached c made close. elim (cases_eq c e.0) [
        | inl same ↦
            let at : slice_index (set radii e.0 (r + 1)) c ≡ r + 1 = ap (slice_index (set radii e.0 (r + 1))) same ∙ get_or-set_same radii e.0 (r + 1) 0 (omega (arith, there', long)) in
            subst (λ n. IsWay t n c) (sym at) (subst (IsWay t (r + 1)) (sym same) (subst (λ n. IsWay t n e.0) next (crosses r d e (reached d.0 (omega (arith, there, long)) near) joined)))
        | inr other ↦
            let at : slice_index (set radii e.0 (r + 1)) c ≡ slice_index radii c = get_or-set_other radii e.0 c (r + 1) 0 other in
            subst (λ n. IsWay t n c) (sym at) (reached c (omega (arith, made, length-set radii e.0 (r + 1))) (omega (arith, close, at)))
      ];
      first = λ zero. get_or-set_other radii e.0 0 (r + 1) 0 (λ same. let at = ap (slice_index radii) same in omega (arith, at, zero, less)) ∙ zero;
      falls = λ _. omega (arith, sum_set radii e.0 (r + 1) (omega (arith, there', long)), less);
      unchanged = λ e. absurd (cc (e));
      done = λ e. absurd (cc (e));
    }
