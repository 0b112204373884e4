-- The runs of Right and of Left sides: which claims they pass, where they end, and how long they
-- are.
use Rattle.std.proofs.Common.{◌≡◌, ◌≢◌, ℕ, zero, suc, ◌+◌, ◌-◌, ◌<◌, ◌≤◌, ◌⊎◌, inl, inr, refl, sym, ap, ◌∙◌, subst, arith}
use Rattle.std.proofs.lemmas.Bool.{cases_lt, cases_eq, eq-eqb, ne_eqb}
use Rattle.tree_model.specs.declared.Claim.{Claim}
use Rattle.regular_maker.specs.Corners.{parity, outer_of}
use Rattle.regular_maker.specs.States.{beyond, right_claim, right_run, left_claim, left_run, rights, lefts}
use Rattle.regular_maker.specs.Pairs.{IsPair, AreNear}
use Rattle.regular_maker.specs.declared.symbol.Pair.{Pair}
use Rattle.regular_maker.proofs.Shapes.{IsShape, IsRight, IsLeft, beyond_right, outer_left}

module _ (q : ℕ) where
  right_shift : (c : Claim) (i : ℕ) → right_claim q (beyond q c.corner) i ≡ right_claim q c (suc i)
  unfolding right_claim
  right_shift c zero = refl
  right_shift c (suc i) = ap (λ (d : Claim). beyond q d.corner) (right_shift c i)

  left_shift : (c : Claim) (i : ℕ) → left_claim q (outer_of q c.corner) i ≡ left_claim q c (suc i)
  unfolding left_claim
  left_shift c zero = refl
  left_shift c (suc i) = ap (λ (d : Claim). outer_of q d.corner) (left_shift c i)

  pub right_run_more : (c : Claim) (n : ℕ) → suc c.place ≡ q
      → right_run q c (suc n) ≡ suc (right_run q (beyond q c.corner) n)
  unfolding right_run
  right_run_more c n e = rw (eq-eqb (suc c.place) q e) refl

  pub right_run_none : (c : Claim) (n : ℕ) → suc c.place ≢ q → right_run q c n ≡ 0
  unfolding right_run
  right_run_none c zero other = refl
  right_run_none c (suc n) other = rw (ne_eqb (suc c.place) q other) refl

  pub left_run_more : (c : Claim) (n : ℕ) → c.place ≡ 0
      → left_run q c (suc n) ≡ suc (left_run q (outer_of q c.corner) n)
  unfolding left_run
  left_run_more c n e = rw (eq-eqb c.place 0 e) refl

  pub left_run_none : (c : Claim) (n : ℕ) → c.place ≢ 0 → left_run q c n ≡ 0
  unfolding left_run
  left_run_none c zero other = refl
  left_run_none c (suc n) other = rw (ne_eqb c.place 0 other) refl

  last_step : (n : ℕ) (c : Claim)
      → ((j : ℕ) → j < right_run q (beyond q c.corner) n
      → suc (right_claim q (beyond q c.corner) j).place ≡ q)
      → (suc c.place ≡ q) ⊎ (suc c.place ≡ q → ⊥) → (i : ℕ) → i < right_run q c (suc n)
      → suc (right_claim q c i).place ≡ q
  unfolding right_claim
  last_step n c before (inr other) i h = absurd (omega (arith, right_run_none c (suc n) other, h))
  last_step n c before (inl e) zero h = e
  last_step n c before (inl e) (suc i) h =
      ap (λ (d : Claim). suc d.place) (sym (right_shift c i))
      ∙ before i (omega (arith, right_run_more c n e, h))

  -- within the run each claim has the last place
  pub right_last : (n : ℕ) (c : Claim) (i : ℕ) → i < right_run q c n
      → suc (right_claim q c i).place ≡ q
  unfolding right_run
  right_last zero c i h = absurd (omega arith)
  right_last (suc n) c i h
      = last_step n c (right_last n (beyond q c.corner)) (cases_eq (suc c.place) q) i h

  ends_step : (n : ℕ) (c : Claim)
      → (right_run q (beyond q c.corner) n < n
      → suc (right_claim q (beyond q c.corner) (right_run q (beyond q c.corner) n)).place ≢ q)
      → (suc c.place ≡ q) ⊎ (suc c.place ≡ q → ⊥) → right_run q c (suc n) < suc n
      → suc (right_claim q c (right_run q c (suc n))).place ≢ q
  unfolding right_claim
  ends_step n c before (inr other) h
      = λ last. other (subst (λ i. suc (right_claim q c i).place ≡ q)
      (right_run_none c (suc n) other) last)
  ends_step n c before (inl e) h = λ last.
      let more = right_run_more c n e in
      let there = subst (λ i. suc (right_claim q c i).place ≡ q) more last in
      before (omega (arith, more, h))
      (ap (λ (d : Claim). suc d.place) (right_shift c (right_run q (beyond q c.corner) n))
      ∙ there)

  -- behind it stands a claim of another place
  pub right_ends : (n : ℕ) (c : Claim) → right_run q c n < n
      → suc (right_claim q c (right_run q c n)).place ≢ q
  right_ends zero c h = absurd (omega arith)
  right_ends (suc n) c h
      = ends_step n c (right_ends n (beyond q c.corner)) (cases_eq (suc c.place) q) h

  few_step : (n : ℕ) (c : Claim) → right_run q (beyond q c.corner) n ≤ n
      → (suc c.place ≡ q) ⊎ (suc c.place ≡ q → ⊥) → right_run q c (suc n) ≤ suc n
  few_step n c before (inr other) = omega (arith, right_run_none c (suc n) other)
  few_step n c before (inl e) = omega (arith, right_run_more c n e, before)

  pub right_few : (n : ℕ) (c : Claim) → right_run q c n ≤ n
  unfolding right_run
  right_few zero c = omega arith
  right_few (suc n) c = few_step n c (right_few n (beyond q c.corner)) (cases_eq (suc c.place) q)

  first_step : (n : ℕ) (c : Claim)
      → ((j : ℕ) → j < left_run q (outer_of q c.corner) n
      → (left_claim q (outer_of q c.corner) j).place ≡ 0)
      → (c.place ≡ 0) ⊎ (c.place ≡ 0 → ⊥) → (i : ℕ) → i < left_run q c (suc n)
      → (left_claim q c i).place ≡ 0
  unfolding left_claim
  first_step n c before (inr other) i h = absurd (omega (arith, left_run_none c (suc n) other, h))
  first_step n c before (inl e) zero h = e
  first_step n c before (inl e) (suc i) h =
      ap (λ (d : Claim). d.place) (sym (left_shift c i))
      ∙ before i (omega (arith, left_run_more c n e, h))

  -- within the run of Left sides each claim has place 0
  pub left_first : (n : ℕ) (c : Claim) (i : ℕ) → i < left_run q c n → (left_claim q c i).place ≡ 0
  unfolding left_run
  left_first zero c i h = absurd (omega arith)
  left_first (suc n) c i h
      = first_step n c (left_first n (outer_of q c.corner)) (cases_eq c.place 0) i h

  stops_step : (n : ℕ) (c : Claim)
      → (left_run q (outer_of q c.corner) n < n
      → (left_claim q (outer_of q c.corner) (left_run q (outer_of q c.corner) n)).place ≢ 0)
      → (c.place ≡ 0) ⊎ (c.place ≡ 0 → ⊥) → left_run q c (suc n) < suc n
      → (left_claim q c (left_run q c (suc n))).place ≢ 0
  unfolding left_claim
  stops_step n c before (inr other) h
      = λ first. other (subst (λ i. (left_claim q c i).place ≡ 0)
      (left_run_none c (suc n) other) first)
  stops_step n c before (inl e) h = λ first.
      let more = left_run_more c n e in
      let there = subst (λ i. (left_claim q c i).place ≡ 0) more first in
      before (omega (arith, more, h))
      (ap (λ (d : Claim). d.place) (left_shift c (left_run q (outer_of q c.corner) n)) ∙ there)

  -- before it stands a claim of another place
  pub left_stops : (n : ℕ) (c : Claim) → left_run q c n < n
      → (left_claim q c (left_run q c n)).place ≢ 0
  left_stops zero c h = absurd (omega arith)
  left_stops (suc n) c h
      = stops_step n c (left_stops n (outer_of q c.corner)) (cases_eq c.place 0) h

  less_step : (n : ℕ) (c : Claim) → left_run q (outer_of q c.corner) n ≤ n
      → (c.place ≡ 0) ⊎ (c.place ≡ 0 → ⊥) → left_run q c (suc n) ≤ suc n
  less_step n c before (inr other) = omega (arith, left_run_none c (suc n) other)
  less_step n c before (inl e) = omega (arith, left_run_more c n e, before)

  pub left_few : (n : ℕ) (c : Claim) → left_run q c n ≤ n
  unfolding left_run
  left_few zero c = omega arith
  left_few (suc n) c = less_step n c (left_few n (outer_of q c.corner)) (cases_eq c.place 0)

-- One step along a run, of which r sides are behind and n sides are left at most, t in all.
module _ (q : ℕ) where
  pub right_end : (c : Claim) (n r t : ℕ) → suc c.place ≢ q → r + right_run q c n ≡ t → r ≡ t
  right_end c n r t other e = omega (arith, right_run_none q c n other, e)

  pub right_more : (c : Claim) (n m r t : ℕ) → suc c.place ≡ q → n ≡ suc m → r + right_run q c n ≡ t
      → r + 1 + right_run q (beyond q c.corner) m ≡ t
  right_more c n m r t last f e = omega (arith, right_run_more q c m last, ap (right_run q c) f, e)

  pub right_full : (c : Claim) (n r t : ℕ) → n ≡ 0 → r + right_run q c n ≡ t → r ≡ t
  right_full c n r t f e = omega (arith, right_few q n c, f, e)

  pub left_end : (c : Claim) (n r t : ℕ) → c.place ≢ 0 → r + left_run q c n ≡ t → r ≡ t
  left_end c n r t other e = omega (arith, left_run_none q c n other, e)

  pub left_more : (c : Claim) (n m r t : ℕ) → c.place ≡ 0 → n ≡ suc m → r + left_run q c n ≡ t
      → r + 1 + left_run q (outer_of q c.corner) m ≡ t
  left_more c n m r t first f e = omega (arith, left_run_more q c m first, ap (left_run q c) f, e)

  pub left_full : (c : Claim) (n r t : ℕ) → n ≡ 0 → r + left_run q c n ≡ t → r ≡ t
  left_full c n r t f e = omega (arith, left_few q n c, f, e)

module _ (p q : ℕ) (shape : IsShape p q) where
  -- the claims of a run lie on the side of the lowest tile on which its first one lies
  pub right_stays : (c : Claim) (i : ℕ) → IsRight q c → IsRight q (right_claim q c i)
  unfolding right_claim
  right_stays c zero h = h
  right_stays c (suc i) h
      = beyond_right p q shape (right_claim q c i).corner (right_stays c i h).corner

  pub left_stays : (c : Claim) (i : ℕ) → IsLeft q c → IsLeft q (left_claim q c i)
  unfolding left_claim
  left_stays c zero h = h
  left_stays c (suc i) h = outer_left p q shape (left_claim q c i).corner (left_stays c i h).corner

  -- with four or more tiles at a corner a run has one side at most
  one_right : (n : ℕ) (c : Claim) → c.corner ≤ parity q → 4 ≤ q → right_run q c n ≤ 1
  unfolding right_claim beyond outer_of
  one_right n c h four = elim (cases_lt 1 (right_run q c n)) [
    | inl more ↦ absurd (omega (arith, right_last q n c 1 more, shape.halves, shape.parity))
    | inr few ↦ few
  ]

  one_left : (n : ℕ) (c : Claim) → c.corner ≤ parity q → 4 ≤ q → left_run q c n ≤ 1
  unfolding left_claim outer_of
  one_left n c h four = elim (cases_lt 1 (left_run q c n)) [
    | inl more ↦ absurd (omega (arith, left_first q n c 1 more, shape.halves, shape.parity))
    | inr few ↦ few
  ]

  -- with three it has two at most
  two_right : (n : ℕ) (c : Claim) → c.corner ≤ parity q → q ≡ 3 → right_run q c n ≤ 2
  unfolding right_claim beyond outer_of
  two_right n c h three = elim (cases_lt 2 (right_run q c n)) [
    | inl more ↦
        let second = right_last q n c 1 (omega (arith, more)) in
        absurd (omega (arith, second, right_last q n c 2 more, shape.halves, shape.parity))
    | inr few ↦ few
  ]

  two_left : (n : ℕ) (c : Claim) → c.corner ≤ parity q → q ≡ 3 → left_run q c n ≤ 2
  unfolding left_claim outer_of
  two_left n c h three = elim (cases_lt 2 (left_run q c n)) [
    | inl more ↦
        let second = left_first q n c 1 (omega (arith, more)) in
        absurd (omega (arith, second, left_first q n c 2 more, shape.halves, shape.parity))
    | inr few ↦ few
  ]

  -- With triangles the two runs of a pair have one side at most together.
  triangle_runs : (x : Pair) → IsPair p q x → p ≡ 3 → 6 ≤ q → rights p q x + lefts p q x ≤ 1
  unfolding rights lefts right_claim left_claim
  triangle_runs x pair three six
      = go (cases_lt 0 (rights p q x)) (cases_lt 0 (lefts p q x)) pair.apart
    where
      go : (0 < rights p q x) ⊎ (rights p q x ≤ 0) → (0 < lefts p q x) ⊎ (lefts p q x ≤ 0)
          → (4 ≤ p) ⊎ AreNear q x.first x.last → rights p q x + lefts p q x ≤ 1
      go (inr none) _ _ = omega
          (arith, one_left (p - 1) x.last pair.last.corner (omega (arith, six)))
      go _ (inr none) _ = omega
          (arith, one_right (p - 1) x.first pair.first.corner (omega (arith, six)))
      go (inl some) (inl more) (inl four) = absurd (omega (arith, three, four))
      go (inl some) (inl more) (inr near)
          = absurd (apart near (right_last q (p - 1) x.first 0 some)
          (left_first q (p - 1) x.last 0 more))
        where
          apart : AreNear q x.first x.last → suc x.first.place ≡ q → x.last.place ≡ 0 → ⊥
          apart (inl a) e f = omega
              (arith, a, e, six, pair.first.corner, shape.halves, shape.parity)
          apart (inr (inl b)) e f = omega (arith, b, f, six, shape.halves, shape.parity)
          apart (inr (inr c)) e f = omega (arith, c.1, f, six, shape.halves, shape.parity)

  -- The runs leave a side between them at least.
  pub runs_apart : (x : Pair) → IsPair p q x → 2 + (rights p q x + lefts p q x) ≤ p
  unfolding rights lefts
  runs_apart x pair = elim shape.cases [
    | inl triangle ↦ omega (arith, triangle_runs x pair triangle.0 triangle.1, triangle.0)
    | inr (inl three) ↦
        omega (
          arith,
          two_right (p - 1) x.first pair.first.corner three.0,
          two_left (p - 1) x.last pair.last.corner three.0,
          three.1,
        )
    | inr (inr four) ↦
        omega (
          arith,
          one_right (p - 1) x.first pair.first.corner four.1,
          one_left (p - 1) x.last pair.last.corner four.1,
          four.0,
        )
  ]
