-- Ways through joined darts, the names of darts, and their joins where a cell is made.
use Rattle.std.proofs.Common.{◌≡◌, ℕ, zero, suc, ◌/◌, ◌%◌, ◌<◌, ◌≤◌, ◌⊎◌, Some, None, refl, sym, ap, ◌∙◌, subst, inl, inr, arith, mod-eq_of_lt}
use Rattle.coincidence.specs.Cells.{IsLive, name}
use Rattle.coincidence.specs.Tables.{JoinTable, joined_to, origin_at}
use Rattle.coincidence.specs.Joined.{IsTable, HasMade}
use Rattle.region_grower.specs.Ways.{IsWay, starts, crosses, IsWithin, IsDart}

pub zero_or_more : (n : ℕ) → (n ≡ 0) ⊎ (0 < n)
zero_or_more zero = inl refl
zero_or_more (suc n) = inr (omega arith)

module _ (t : JoinTable) (table : IsTable t) where
  -- the name of a dart of a live cell is one of its sides
  pub own_cell : (c i : ℕ) → IsLive t.cells c → (name t.cells (c, i)).0 ≡ c
  own_cell c i live = ap (λ p. p.0) (table.name_live c i live)

  pub dart_name : (d : ℕ × ℕ) → IsDart t d → name t.cells d ≡ d
  dart_name d is_dart = table.name_live d.0 d.1 is_dart.live ∙ ap (λ i. (d.0, i)) (mod-eq_of_lt is_dart.below)

  pub named_dart : (d : ℕ × ℕ) → IsDart t (name t.cells d)
  named_dart d = let h = table.named d in record { live = h.live; below = h.below }

  pub over_dart : (d e : ℕ × ℕ) → joined_to t d ≡ Some e → IsDart t e
  over_dart d e joined = subst (IsDart t) (table.joined_name d e joined).1 (named_dart e)

  -- a dart is joined where its name is
  pub joined_named : (d e : ℕ × ℕ) → joined_to t d ≡ Some e → joined_to t (name t.cells d) ≡ Some e
  joined_named d e joined = table.back e (name t.cells d) (table.back d e joined) ∙ ap Some (table.joined_name d e joined).1

  -- each live cell is reached
  pub way_to : (c : ℕ) → IsLive t.cells c → (n : ℕ) × (n ≤ c) × IsWay t n c
  way_to c live = go (suc c) c (omega arith) live
    where
      go : (bound c : ℕ) → c < bound → IsLive t.cells c → (n : ℕ) × (n ≤ c) × IsWay t n c
      go zero c h live = absurd (omega (arith, h))
      go (suc bound) c h live = elim (zero_or_more c) [
        | inl e ↦ (0, omega arith, subst (IsWay t 0) (sym e) starts)
        | inr some ↦
            let made = table.live_made c live in
            let from = table.come c some made in
            let o = origin_at t.origins c in
            let near = name t.cells (o.across / 64, o.across % 64) in
            let named = table.named (o.across / 64, o.across % 64) in
            let before = from.earlier in
            let at = named.earlier in
            let rest = go bound near.0 (omega (arith, before, at, h)) named.live in
            (suc rest.0, omega (arith, rest.1, before, at), subst (IsWay t (suc rest.0)) (own_cell c o.own live) (crosses rest.0 near (name t.cells (c, o.own)) rest.2 (table.met c some made)))
      ]

pub within_more : (t : JoinTable) (m n c : ℕ) → m ≤ n → IsWithin t m c → IsWithin t n c
within_more t m n c le h = record { crossings = h.crossings; at_most = omega (arith, le, h.at_most); way = h.way }

-- A cell is made across a dart that was not joined.
module _ (t t' : JoinTable) (table : IsTable t) (d : ℕ × ℕ) (w : ℕ) (made : HasMade t t' d w) (is_dart : IsDart t d) (unjoined : joined_to t d ≡ None) where
  pub join_made : (a b : ℕ × ℕ) → joined_to t a ≡ Some b → joined_to t' a ≡ Some b
  join_made a b joined =
      let live = (table.joined_name a b joined).0 in
      let there = table.live_made a.0 live in
      made.joins a (omega (arith, there, made.number)) (λ same.
      let at : joined_to t d ≡ Some b = subst (λ x. joined_to t x ≡ Some b) (same ∙ dart_name t table d is_dart) (joined_named t table a b joined) in
      absurd (cc (at, unjoined))) ∙ joined
