-- The dart of a live cell that a dart is.
use Rattle.std.proofs.Common.{◌≡◌, ℕ, zero, suc, ◌+◌, ◌%◌, ◌<◌, ◌≤◌, cond, nat_eq, List, sym, ap, ap₂, ◌∙◌, subst, inl, inr, arith, mod-lt, mod-eq_of_lt}
use Rattle.std.proofs.Math.Nat.{mod-add-mod}
use Rattle.coincidence.specs.declared.table.Cell.{Cell}
use Rattle.coincidence.specs.Cells.{turn_at, into_at, shift_at, IsLive, IsOrdered, name_within, name}
use Rattle.coincidence.proofs.Numbers.{zero_or_more, not_zero}

module _ (cells : List Cell) where
  within_renamed : (n c i : ℕ) → turn_at cells c ≡ 0 → name_within (suc n) cells c i ≡ name_within n cells (into_at cells c) (i + shift_at cells c)
  within_renamed n c i e = ap (λ t. cond (nat_eq t 0) (name_within n cells (into_at cells c) (i + shift_at cells c)) (c, i % turn_at cells c)) e

  within_live : (n c i : ℕ) → IsLive cells c → name_within (suc n) cells c i ≡ (c, i % turn_at cells c)
  within_live n c i live = ap (λ b. cond b (name_within n cells (into_at cells c) (i + shift_at cells c)) (c, i % turn_at cells c)) (not_zero (turn_at cells c) live)

  module _ (ordered : IsOrdered cells) where
    -- how often is no matter, where it is often enough
    within_same : (m n c i : ℕ) → c < m → c < n → name_within m cells c i ≡ name_within n cells c i
    within_same zero n c i h k = absurd (omega arith)
    within_same (suc m) zero c i h k = absurd (omega arith)
    within_same (suc m) (suc n) c i h k = elim (zero_or_more (turn_at cells c)) [
      | inl e ↦
          let below = ordered c e in
          within_renamed m c i e ∙ within_same m n (into_at cells c) (i + shift_at cells c) (omega arith) (omega arith) ∙ sym (within_renamed n c i e)
      | inr live ↦ within_live m c i live ∙ sym (within_live n c i live)
    ]

    pub name_renamed : (c i : ℕ) → turn_at cells c ≡ 0 → name cells (c, i) ≡ name cells (into_at cells c, i + shift_at cells c)
    unfolding name
    name_renamed c i e =
        let below = ordered c e in
        within_renamed c c i e ∙ within_same c (suc (into_at cells c)) (into_at cells c) (i + shift_at cells c) below (omega arith)

    pub name_live : (c i : ℕ) → IsLive cells c → name cells (c, i) ≡ (c, i % turn_at cells c)
    unfolding name
    name_live c i live = within_live c c i live

    -- what holds of the darts of live cells, and passes from the cell that a cell became to it, holds of all darts
    pub by_names : (P : ℕ → ℕ → Type 0) → ((c i : ℕ) → IsLive cells c → P c i) → ((c i : ℕ) → turn_at cells c ≡ 0 → P (into_at cells c) (i + shift_at cells c) → P c i) → (c i : ℕ) → P c i
    by_names P at_live passes c i = go (suc c) c i (omega arith)
      where
        go : (bound c i : ℕ) → c < bound → P c i
        go zero c i h = absurd (omega arith)
        go (suc bound) c i h = elim (zero_or_more (turn_at cells c)) [
          | inl e ↦ let below = ordered c e in passes c i e (go bound (into_at cells c) (i + shift_at cells c) (omega arith))
          | inr live ↦ at_live c i live
        ]

    -- a name is of a live cell, no later one, below its turn
    pub record IsNamed (c : ℕ) (p : ℕ × ℕ) : Type 0 where
      pub live : IsLive cells p.0
      pub below : p.1 < turn_at cells p.0
      pub earlier : p.0 ≤ c

    pub named : (c i : ℕ) → IsNamed c (name cells (c, i))
    named = by_names (λ c i. IsNamed c (name cells (c, i)))
        (λ c i live. subst (IsNamed c) (sym (name_live c i live)) (record { live = live; below = mod-lt i live; earlier = omega arith }))
        (λ c i e h. subst (IsNamed c) (sym (name_renamed c i e)) (let below = ordered c e in record { live = h.live; below = h.below; earlier = omega (arith, h.earlier) }))

    -- a dart of a live cell below its turn has its own name
    pub name_settled : (c i : ℕ) → i < turn_at cells c → name cells (c, i) ≡ (c, i)
    name_settled c i h = name_live c i (omega arith) ∙ ap (λ j. (c, j)) (mod-eq_of_lt h)

    pub name_name : (d : ℕ × ℕ) → name cells (name cells d) ≡ name cells d
    name_name d = let h = named d.0 d.1 in name_settled (name cells d).0 (name cells d).1 h.below

-- all sides of a cell become sides of one cell
pub name_cell : (cells : List Cell) → IsOrdered cells → (c i j : ℕ) → (name cells (c, i)).0 ≡ (name cells (c, j)).0
name_cell cells ordered c i j = by_names cells ordered (λ c i. (j : ℕ) → (name cells (c, i)).0 ≡ (name cells (c, j)).0)
    (λ c i live j. ap (λ p. p.0) (name_live cells ordered c i live) ∙ sym (ap (λ p. p.0) (name_live cells ordered c j live)))
    (λ c i gone rest j. ap (λ p. p.0) (name_renamed cells ordered c i gone) ∙ (rest (j + shift_at cells c) ∙ sym (ap (λ p. p.0) (name_renamed cells ordered c j gone))))
    c i j

-- Names are composed where renamed cells stay as they are, and sides equal modulo the old turn of a live cell keep one name.
pub record Respects (cells cells' : List Cell) : Type 0 where
  pub gone : (c : ℕ) → turn_at cells c ≡ 0 → turn_at cells' c ≡ 0
  pub into : (c : ℕ) → turn_at cells c ≡ 0 → into_at cells' c ≡ into_at cells c
  pub shift : (c : ℕ) → turn_at cells c ≡ 0 → shift_at cells' c ≡ shift_at cells c
  pub sides : (c i : ℕ) → IsLive cells c → name cells' (c, i % turn_at cells c) ≡ name cells' (c, i)

pub names_compose : (cells cells' : List Cell) → IsOrdered cells → IsOrdered cells' → Respects cells cells' → (d : ℕ × ℕ) → name cells' (name cells d) ≡ name cells' d
names_compose cells cells' ordered ordered' respects d =
    by_names cells ordered (λ c i. name cells' (name cells (c, i)) ≡ name cells' (c, i))
    (λ c i live. ap (name cells') (name_live cells ordered c i live) ∙ respects.sides c i live)
    (λ c i e h. ap (name cells') (name_renamed cells ordered c i e) ∙ h ∙ ap₂ (λ a b. name cells' (a, i + b)) (sym (respects.into c e)) (sym (respects.shift c e)) ∙ sym (name_renamed cells' ordered' c i (respects.gone c e)))
    d.0 d.1

-- the next side to the left is named as the next side of the name
pub name_beside : (cells : List Cell) → IsOrdered cells → (c i : ℕ) → name cells (c, i + 1) ≡ name cells ((name cells (c, i)).0, (name cells (c, i)).1 + 1)
name_beside cells ordered = by_names cells ordered (λ c i. name cells (c, i + 1) ≡ name cells ((name cells (c, i)).0, (name cells (c, i)).1 + 1))
    (λ c i live.
    let t = turn_at cells c in
    let same : (i % t + 1) % t ≡ (i + 1) % t = mod-add-mod i t 1 in
    name_live cells ordered c (i + 1) live ∙ (ap (λ j. (c, j)) (sym same) ∙ (sym (name_live cells ordered c (i % t + 1) live) ∙ ap (λ p. name cells (p.0, p.1 + 1)) (sym (name_live cells ordered c i live)))))
    (λ c i gone rest.
    let s = shift_at cells c in
    let e : i + 1 + s ≡ i + s + 1 = omega arith in
    name_renamed cells ordered c (i + 1) gone ∙ (ap (λ j. name cells (into_at cells c, j)) e ∙ (rest ∙ ap (λ p. name cells (p.0, p.1 + 1)) (sym (name_renamed cells ordered c i gone)))))
