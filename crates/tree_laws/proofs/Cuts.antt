-- A list of outer links that is one too long is cut.
use Rattle.std.proofs.Common.{◌≡◌, ℕ, zero, suc, ◌+◌, ◌-◌, ◌<◌, ◌≤◌, sym, ap, ◌∙◌, arith, ℤ, pos, negsuc, ◌+ℤ◌, ◌*ℤ◌, ◌<ℤ◌, ◌≤ℤ◌}
use Rattle.std.proofs.lemmas.Int.{ints}
use Rattle.tree_model.specs.Automata.{TreeAutomaton}
use Rattle.tree_model.specs.OuterLinks.{led, entered_sum}
use Rattle.tree_model.specs.Conditions.{HasFallingCycles}
use Rattle.tree_model.proofs.Alike.{two_alike}
use Rattle.tree_model.proofs.OuterLinks.{AreLinked, led_on, sum_on, led_known}
use Rattle.tree_laws.specs.Ranks.{corner_count, link_sum}
use Rattle.tree_laws.proofs.Weights.{spread}

module _ (a : TreeAutomaton) (linked : AreLinked a) where
  -- N times a sum that is below 0, and at most N, is at most 0
  lowered : (n d : ℕ) (s : ℤ) → s <ℤ pos 0 → d ≤ n → ((pos n *ℤ s) +ℤ pos d) ≤ℤ pos 0
  lowered n d (pos k) l h = absurd (omega (arith, ints, l))
  lowered n d (negsuc zero) l h = omega (arith, ints, h)
  lowered n d (negsuc (suc k)) l h =
      let i = lowered n d (negsuc k) (omega (arith, ints)) h in
      omega (arith, ints, i)

  -- a list that is one link too long visits a corner type twice, and what lies between is cut out
  pub record Cut (x : ℕ) : Type 0 where
    pub links : ℕ
    pub few : links ≤ corner_count a
    pub ends : led a links x ≡ led a (suc (corner_count a)) x
    pub no_less : link_sum a (suc (corner_count a)) x ≤ℤ link_sum a links x

  module _ (falling : (g : ℕ) → g < corner_count a → HasFallingCycles a g) where
    cut_at : (x i d r : ℕ) → x < corner_count a → led a i x ≡ led a (i + suc d) x → (i + suc d) + r ≡ suc (corner_count a) → i + suc d ≤ corner_count a → Cut x
    cut_at x i d r l same whole within =
        let n = corner_count a in
        let y = led a i x in
        let back : led a (suc d) y ≡ y = sym (led_on a i (suc d) x) ∙ sym same in
        let ly = led_known a linked i x l in
        let low : entered_sum a (suc d) y <ℤ pos 0 = falling y ly d back in
        let part = lowered n (suc d) (entered_sum a (suc d) y) low (omega (arith, within)) in
        let ends : led a (i + r) x ≡ led a (suc n) x = led_on a i r x ∙ ap (led a r) same ∙ sym (led_on a (i + suc d) r x) ∙ ap (λ m. led a m x) whole in
        let s0 = ap (λ m. entered_sum a m x) (sym whole) in
        let s1 = sum_on a (i + suc d) r x in
        let s2 = sum_on a i (suc d) x in
        let s3 = sum_on a i r x in
        let s4 = ap (entered_sum a r) same in
        let sum : entered_sum a (suc n) x ≡ entered_sum a (i + r) x +ℤ entered_sum a (suc d) y = omega (arith, ints, s0, s1, s2, s3, s4) in
        let times = spread n (entered_sum a (suc n) x) (entered_sum a (i + r) x) (entered_sum a (suc d) y) sum in
        record { links = i + r; few = omega (arith, whole); ends = ends; no_less = omega (arith, ints, times, part, whole) }

    pub cut : (x : ℕ) → x < corner_count a → Cut x
    cut x l =
        let n = corner_count a in
        let (i, j, less, within, same) = two_alike (λ m. led a m x) n (suc n) (omega arith) (λ m h. led_known a linked m x l) in
        let d = (j - i) - 1 in
        let e : j ≡ i + suc d = omega (arith, less) in
        let r = suc n - j in
        cut_at x i d r l (same ∙ ap (λ m. led a m x) e) (omega (arith, within, e)) (omega (arith, within, e))
