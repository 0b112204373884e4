-- Cycles of outer links: laps, and the same cycle from another of its corner types.
use Rattle.std.proofs.Common.{◌≡◌, ◌≢◌, ℕ, zero, suc, ◌+◌, ◌-◌, ◌<◌, ◌≤◌, ◌⊎◌, inl, inr, refl, sym, ap, ◌∙◌, arith, ℤ, pos, ◌+ℤ◌, ◌<ℤ◌, ◌≤ℤ◌}
use Rattle.std.proofs.lemmas.Int.{ints}
use Rattle.std.proofs.lemmas.Bool.{cases_eq, cases_lt}
use Rattle.tree_model.specs.Automata.{TreeAutomaton, outer}
use Rattle.tree_model.specs.OuterLinks.{led, entered_sum}
use Rattle.tree_model.specs.Conditions.{HasFallingCycles}
use Rattle.structure_check.specs.Cycles.{IsRound}
use Rattle.tree_model.proofs.OuterLinks.{led_on, sum_on}

module _ (a : TreeAutomaton) where
  -- who is led to x and back to itself is led from x to itself
  pub led_back : (y j n : ℕ) → led a (suc n) y ≡ y → (r : ℕ) × (led a r (led a j y) ≡ y)
  led_back y zero n back = (0, refl)
  led_back y (suc j) n back = go (led_back y j n back)
    where
      e : led a (suc j) y ≡ (outer a (led a j y)).corner
      e = let s : j + 1 ≡ suc j = omega arith in ap (λ m. led a m y) (sym s) ∙ led_on a j 1 y

      go : (r : ℕ) × (led a r (led a j y) ≡ y) → (r : ℕ) × (led a r (led a (suc j) y) ≡ y)
      go (zero, h) = (n, ap (led a n) (e ∙ ap (λ z. (outer a z).corner) h) ∙ back)
      go (suc r, h) = (r, ap (led a r) e ∙ h)

  -- the cycle through y is one through x, with the same sum, where y is led to x
  pub rotated : (x y j n : ℕ) → led a j y ≡ x → led a (suc n) y ≡ y → (led a (suc n) x ≡ x) × (entered_sum a (suc n) x ≡ entered_sum a (suc n) y)
  rotated x y j n to back =
      let c : j + suc n ≡ suc n + j = omega arith in
      let one = led_on a j (suc n) y in
      let two = led_on a (suc n) j y in
      let round = ap (led a (suc n)) (sym to) ∙ sym one ∙ ap (λ m. led a m y) c ∙ two ∙ ap (led a j) back ∙ to in
      let s = sum_on a j (suc n) y in
      let t = sum_on a (suc n) j y in
      let u = ap (λ m. entered_sum a m y) c in
      let v = ap (entered_sum a (suc n)) to in
      let w = ap (entered_sum a j) back in
      (round, omega (arith, ints, s, t, u, v, w))

  pub falls_round : (x y j : ℕ) → led a j y ≡ x → HasFallingCycles a x → HasFallingCycles a y
  falls_round x y j to falls n back =
      let (b, s) = rotated x y j n to back in
      let f = falls n b in
      omega (arith, ints, f, s)

  module _ (x : ℕ) (sum : ℤ) (least : ℕ) (h : IsRound a x sum least) where
    -- a lap less
    shorter : (n : ℕ) → led a (suc n) x ≡ x → (n ≡ h.links) ⊎ ((r : ℕ) × (suc n ≡ suc h.links + suc r) × (led a (suc r) x ≡ x) × (entered_sum a (suc n) x ≡ sum +ℤ entered_sum a (suc r) x))
    shorter n back = go (cases_eq n h.links) (cases_lt n h.links)
      where
        go : (n ≡ h.links) ⊎ (n ≢ h.links) → (n < h.links) ⊎ (h.links ≤ n) → (n ≡ h.links) ⊎ ((r : ℕ) × (suc n ≡ suc h.links + suc r) × (led a (suc r) x ≡ x) × (entered_sum a (suc n) x ≡ sum +ℤ entered_sum a (suc r) x))
        go (inl e) _ = inl e
        go (inr d) (inl l) = absurd (h.first n l back)
        go (inr d) (inr g) =
            let r = (n - h.links) - 1 in
            let e : suc n ≡ suc h.links + suc r = omega (arith, d, g) in
            let b = ap (λ m. led a m x) e ∙ led_on a (suc h.links) (suc r) x ∙ ap (led a (suc r)) h.back in
            let s = sum_on a (suc h.links) (suc r) x in
            let t = ap (λ m. entered_sum a m x) e in
            let u = ap (entered_sum a (suc r)) h.back in
            inr (r, e, sym b ∙ back, omega (arith, ints, s, t, u, h.summed))

    laps_to : (bound n : ℕ) → n < bound → sum <ℤ pos 0 → led a (suc n) x ≡ x → entered_sum a (suc n) x <ℤ pos 0
    laps_to zero n l low back = absurd (omega (arith, l))
    laps_to (suc b) n l low back = go (shorter n back) (λ r k e. laps_to b r k low e)
      where
        go : (n ≡ h.links) ⊎ ((r : ℕ) × (suc n ≡ suc h.links + suc r) × (led a (suc r) x ≡ x) × (entered_sum a (suc n) x ≡ sum +ℤ entered_sum a (suc r) x)) → ((r : ℕ) → r < b → led a (suc r) x ≡ x → entered_sum a (suc r) x <ℤ pos 0) → entered_sum a (suc n) x <ℤ pos 0
        go (inl e) ih = let s = ap (λ m. entered_sum a (suc m) x) e in omega (arith, ints, s, h.summed, low)
        go (inr (r, e, k, s)) ih = let i = ih r (omega (arith, e, l)) k in omega (arith, ints, s, i, low)

    pub laps : sum <ℤ pos 0 → HasFallingCycles a x
    laps low n back = laps_to (suc n) n (omega arith) low back

    -- however far one is led, no corner type is below the least
    low_to : (bound n : ℕ) → n < bound → least ≤ led a n x
    low_to zero n l = absurd (omega (arith, l))
    low_to (suc b) n l = go (cases_lt h.links n) (λ r k. low_to b r k)
      where
        go : (h.links < n) ⊎ (n ≤ h.links) → ((r : ℕ) → r < b → least ≤ led a r x) → least ≤ led a n x
        go (inr k) ih = h.low n k
        go (inl k) ih =
            let r = n - suc h.links in
            let e : n ≡ suc h.links + r = omega (arith, k) in
            let s = ap (λ m. led a m x) e ∙ led_on a (suc h.links) r x ∙ ap (led a r) h.back in
            let i = ih r (omega (arith, e, l)) in
            omega (arith, s, i)

    pub low_all : (n : ℕ) → least ≤ led a n x
    low_all n = low_to (suc n) n (omega arith)

    -- where the sum is not below 0 the least one lies on a cycle that does not fall
    pub least_fails : pos 0 ≤ℤ sum → ¬ (HasFallingCycles a least)
    least_fails up falls =
        let (i, l, e) = h.on in
        let (b, s) = rotated least x i h.links e h.back in
        let f = falls h.links b in
        omega (arith, ints, f, s, h.summed, up)

    -- and who is led to x lies on no cycle at all where it is below the least
    pub below_none : (y j : ℕ) → led a j y ≡ x → y < least → HasFallingCycles a y
    below_none y j to l n back =
        let (r, e) = led_back y j n back in
        let m = low_all r in
        let s = ap (led a r) (sym to) ∙ e in
        absurd (omega (arith, m, s, l))
