-- The live cells, counted and listed; a cell at a distance is one of many.
use Rattle.std.proofs.Common.{◌≡◌, ℕ, zero, suc, ◌+◌, ◌<◌, ◌≤◌, cond, nat_eq, nat_lt, List, length, take, sum_by, slice_index, sym, ap, ◌∙◌, subst, inl, inr, arith}
use Rattle.std.proofs.lemmas.Bool.{cases_lt, cases_eq, lt-ltb, le-ltb, ne_eqb}
use Rattle.std.proofs.lemmas.List.{take_all}
use Rattle.std.proofs.lemmas.List.Sums.{sum_by_more}
use Rattle.coincidence.specs.declared.table.Cell.{Cell}
use Rattle.coincidence.specs.Cells.{no_cell, turn_at, IsLive, live_count}
use Rattle.coincidence.specs.Tables.{JoinTable}
use Rattle.coincidence.specs.Joined.{IsTable}
use Rattle.region_grower.specs.Ways.{IsWay, starts, crosses, IsRadius}
use Rattle.region_grower.specs.Regions.{total, AreRadii}
use Rattle.region_grower.proofs.Ways.{over_dart}
use Rattle.region_grower.proofs.Left.{total_none, total_next, total_le, total_lt}

-- one for a turn that is some
abbrev pub one_if : ℕ → ℕ
one_if n = cond (nat_eq n 0) 0 1

pub one_if_none : (n : ℕ) → n ≡ 0 → one_if n ≡ 0
one_if_none n e = ap one_if e

pub one_if_some : (n : ℕ) → 0 < n → one_if n ≡ 1
one_if_some n some = ap (λ b. cond b 0 1) (ne_eqb n 0 (λ e. omega (arith, e, some)))

abbrev weight : Cell → ℕ
weight x = one_if x.turn

-- a sum over a list is one over its indices
sum_total : (cells : List Cell) (n : ℕ) → n ≤ length cells → sum_by weight (take n cells) ≡ total n (λ c. one_if (turn_at cells c))
sum_total cells zero le = sym (total_none (λ c. one_if (turn_at cells c)))
sum_total cells (suc n) le =
    let rest = sum_total cells n (omega (arith, le)) in
    let more = sum_by_more weight cells n no_cell (omega (arith, le)) in
    let next : n + 1 ≡ suc n = omega arith in
    ap (λ m. sum_by weight (take m cells)) (sym next) ∙ omega (arith, more, rest, total_next n (λ c. one_if (turn_at cells c)))

pub live_total : (cells : List Cell) → live_count cells ≡ total (length cells) (λ c. one_if (turn_at cells c))
live_total cells = ap (sum_by weight) (sym (take_all (length cells) cells (omega arith))) ∙ sum_total cells (length cells) (omega arith)

module _ (t : JoinTable) (table : IsTable t) where
  -- on the way to a cell there is one at each smaller distance
  pub way_part : {n c : ℕ} → IsWay t n c → IsLive t.cells c
  way_part starts = table.first_live
  way_part (crosses n d e way joined) = (over_dart t table d e joined).live

  pub radius_part : {n c : ℕ} → IsWay t n c → IsRadius t c n → (m : ℕ) → m ≤ n → (b : ℕ) × IsRadius t b m
  radius_part {n} {c} starts radius m le = (0, record { way = subst (λ k. IsWay t k 0) (none m le) starts; least = λ k way. omega (arith, le) })
    where
      none : (m : ℕ) → m ≤ 0 → 0 ≡ m
      none m le = omega (arith, le)
  radius_part (crosses n d e way joined) radius m le = elim (cases_eq m (suc n)) [
    | inl same ↦ (e.0, subst (IsRadius t e.0) (sym same) radius)
    | inr other ↦ radius_part way (record { way = way; least = λ k on. let more = radius.least (suc k) (crosses k d e on joined) in omega (arith, more) }) m (omega (arith, le, other))
  ]

  module _ (radii : List ℕ) (are : AreRadii t radii) where
    -- one for a live cell that is nearer than k
    abbrev nearer : ℕ → ℕ → ℕ
    nearer k c = cond (nat_lt (slice_index radii c) k) (one_if (turn_at t.cells c)) 0

    nearer_yes : (k c : ℕ) → slice_index radii c < k → nearer k c ≡ one_if (turn_at t.cells c)
    nearer_yes k c low = ap (λ b. cond b (one_if (turn_at t.cells c)) 0) (lt-ltb (slice_index radii c) k low)

    nearer_no : (k c : ℕ) → k ≤ slice_index radii c → nearer k c ≡ 0
    nearer_no k c high = ap (λ b. cond b (one_if (turn_at t.cells c)) 0) (le-ltb (slice_index radii c) k high)

    nearer_more : (k c : ℕ) → nearer k c ≤ nearer (suc k) c
    nearer_more k c = elim (cases_lt (slice_index radii c) k) [
      | inl low ↦ omega (arith, nearer_yes k c low, nearer_yes (suc k) c (omega (arith, low)))
      | inr high ↦ omega (arith, nearer_no k c high)
    ]

    nearer_all : (k c : ℕ) → nearer k c ≤ one_if (turn_at t.cells c)
    nearer_all k c = elim (cases_lt (slice_index radii c) k) [
      | inl low ↦ omega (arith, nearer_yes k c low)
      | inr high ↦ omega (arith, nearer_no k c high)
    ]

    many : (m : ℕ) → ((k : ℕ) → k ≤ m → (b : ℕ) × IsRadius t b k) → (k : ℕ) → k ≤ suc m → k ≤ total (length t.cells) (nearer k)
    many m each zero le = omega arith
    many m each (suc k) le =
        let rest = many m each k (omega (arith, le)) in
        let at = each k (omega (arith, le)) in
        let b = at.0 in
        let live = way_part at.1.way in
        let made = table.live_made b live in
        let its = are b live in
        let first = its.least k at.1.way in
        let second = at.1.least (slice_index radii b) its.way in
        let none = nearer_no k b (omega (arith, first, second)) in
        let one = nearer_yes (suc k) b (omega (arith, first, second)) ∙ one_if_some (turn_at t.cells b) live in
        let more = total_lt (length t.cells) (nearer k) (nearer (suc k)) (λ c _. nearer_more k c) b (omega (arith, made, table.count)) (omega (arith, none, one)) in
        omega (arith, rest, more)

    -- a live cell at distance m is one of more than m
    pub many_live : (m c : ℕ) → IsRadius t c m → m < live_count t.cells
    many_live m c radius =
        let all = many m (λ k le. radius_part radius.way radius k le) (suc m) (omega arith) in
        let less = total_le (length t.cells) (nearer (suc m)) (λ c. one_if (turn_at t.cells c)) (λ c _. nearer_all (suc m) c) in
        omega (arith, all, less, live_total t.cells)
