-- The walk round a cycle of outer links.
use Rattle.std.proofs.Common.{◌≡◌, ◌≢◌, ℕ, zero, suc, ◌+◌, ◌*◌, ◌<◌, ◌≤◌, ◌⊎◌, inl, inr, min, length, refl, sym, ap, ◌∙◌, subst, arith, ℤ, pos, ◌+ℤ◌, ◌-ℤ◌, ◌≤ℤ◌}
use Rattle.std.proofs.lemmas.Int.{ints}
use Rattle.std.proofs.lemmas.Bool.{cases_eq, cases_lt}
use Rattle.tree_model.specs.Automata.{TreeAutomaton, outer}
use Rattle.tree_model.specs.OuterLinks.{entered, led, entered_sum}
use Rattle.structure_check.specs.Cycles.{HaveOuters, IsRound}
use Rattle.tree_model.proofs.OuterLinks.{led_on, sum_on}

-- So many links and one more lead from x to y, and none before led back to x.
pub record IsRounding (a : TreeAutomaton) (x links y : ℕ) (sum : ℤ) (least : ℕ) : Type 0 where
  pub known : y < length a.corners
  pub ends : led a (suc links) x ≡ y
  pub summed : sum ≡ entered_sum a (suc links) x
  pub first : (i : ℕ) → i < links → led a (suc i) x ≢ x
  pub on : (i : ℕ) × (i ≤ links) × (led a i x ≡ least)
  pub low : (i : ℕ) → i ≤ links → least ≤ led a i x

module _ (a : TreeAutomaton) (there : HaveOuters a) (x : ℕ) where
  -- the sum of so many offsets, each 64 at most in absolute value
  pub sums_fit : (n y : ℕ) → y < length a.corners → ((pos 0 -ℤ pos (64 * n)) ≤ℤ entered_sum a n y) × (entered_sum a n y ≤ℤ pos (64 * n))
  sums_fit zero y l = (omega (arith, ints), omega (arith, ints))
  sums_fit (suc n) y l =
      let (i, j) = sums_fit n (outer a y).corner (there.linked y l) in
      (omega (arith, ints, i, there.least y l), omega (arith, ints, j, there.most y l))

  pub rounding_start : x < length a.corners → IsRounding a x 0 (outer a x).corner (entered a x) x
  rounding_start l = record {
    known = there.linked x l;
    ends = refl;
    summed = omega (arith, ints);
    first = λ i h. absurd (omega (arith, h));
    on = (0, omega arith, refl);
    low = λ i h. let e : i ≡ 0 = omega (arith, h) in let f = ap (λ m. led a m x) e in omega (arith, f);
  }

  -- a sum that has room for one offset more
  pub room : (links y : ℕ) (sum : ℤ) (least : ℕ) → x < length a.corners → IsRounding a x links y sum least → links ≤ 20000 → ((pos 0 -ℤ pos 2000000) ≤ℤ (sum +ℤ entered a y)) × ((sum +ℤ entered a y) ≤ℤ pos 2000000)
  room links y sum least l r few =
      let (i, j) = sums_fit (suc links) x l in
      (omega (arith, ints, i, r.summed, there.least y r.known, few), omega (arith, ints, j, r.summed, there.most y r.known, few))

  module _ (links y : ℕ) (sum : ℤ) (least : ℕ) (r : IsRounding a x links y sum least) where
    pub rounding_done : y ≡ x → IsRound a x sum least
    rounding_done e = record { links = links; back = r.ends ∙ e; summed = r.summed; first = r.first; on = r.on; low = r.low }

    pub rounding_on : y ≢ x → IsRounding a x (suc links) (outer a y).corner (sum +ℤ entered a y) (min least y)
    rounding_on away =
        let n : suc links + 1 ≡ suc (suc links) = omega arith in
        let s = sum_on a (suc links) 1 x in
        let t = ap (λ m. entered_sum a m x) n in
        let u = ap (entered a) r.ends in
        record {
          known = there.linked y r.known;
          ends = ap (λ m. led a m x) (sym n) ∙ led_on a (suc links) 1 x ∙ ap (λ z. (outer a z).corner) r.ends;
          summed = omega (arith, ints, s, t, u, r.summed);
          first = λ i l. first_on i l (cases_eq i links);
          on = on_on (cases_lt y least) r.on;
          low = λ i l. low_on i l (cases_eq i (suc links));
        }
      where
        first_on : (i : ℕ) → i < suc links → (i ≡ links) ⊎ (i ≢ links) → led a (suc i) x ≢ x
        first_on i l (inl e) = λ b. away (sym r.ends ∙ ap (λ m. led a (suc m) x) (sym e) ∙ b)
        first_on i l (inr d) = r.first i (omega (arith, l, d))

        on_on : (y < least) ⊎ (least ≤ y) → (i : ℕ) × (i ≤ links) × (led a i x ≡ least) → (i : ℕ) × (i ≤ suc links) × (led a i x ≡ min least y)
        on_on (inl l) _ = (suc links, omega arith, r.ends ∙ omega (arith, l))
        on_on (inr h) (i, l, e) = (i, omega (arith, l), e ∙ omega (arith, h))

        low_on : (i : ℕ) → i ≤ suc links → (i ≡ suc links) ⊎ (i ≢ suc links) → min least y ≤ led a i x
        low_on i l (inl e) = let f = ap (λ m. led a m x) e ∙ r.ends in omega (arith, f)
        low_on i l (inr d) = let m = r.low i (omega (arith, l, d)) in omega (arith, m)

    -- after as many links as lead back once it was back before
    pub rounding_over : (n : ℕ) → n < links → led a (suc n) x ≡ x → ⊥
    rounding_over n l e = r.first n l e

pub rounding_is : (a : TreeAutomaton) (x n n' y y' : ℕ) (s s' : ℤ) (l l' : ℕ) → IsRounding a x n y s l → n ≡ n' → y ≡ y' → s ≡ s' → l ≡ l' → IsRounding a x n' y' s' l'
rounding_is a x n n' y y' s s' l l' r en ey es el =
    subst (λ v. IsRounding a x n' y' s' v) el (subst (λ v. IsRounding a x n' y' v l) es (subst (λ v. IsRounding a x n' v s l) ey (subst (λ v. IsRounding a x v y s l) en r)))
