-- Lists of outer links, joined.
use Rattle.std.proofs.Common.{◌≡◌, ℕ, zero, suc, ◌+◌, ◌<◌, length, ap, ◌∙◌, arith, ◌+ℤ◌}
use Rattle.std.proofs.lemmas.Int.{ints}
use Rattle.tree_model.specs.Automata.{TreeAutomaton, outer}
use Rattle.tree_model.specs.OuterLinks.{led, entered_sum}

abbrev pub AreLinked : TreeAutomaton → Type 0
AreLinked a = (g : ℕ) → g < length a.corners → (outer a g).corner < length a.corners

module _ (a : TreeAutomaton) where
  pub led_on : (i n g : ℕ) → led a (i + n) g ≡ led a n (led a i g)
  led_on zero n g = let e : 0 + n ≡ n = omega arith in ap (λ m. led a m g) e
  led_on (suc i) n g = let e : suc i + n ≡ suc (i + n) = omega arith in ap (λ m. led a m g) e ∙ led_on i n (outer a g).corner

  pub sum_on : (i n g : ℕ) → entered_sum a (i + n) g ≡ entered_sum a i g +ℤ entered_sum a n (led a i g)
  sum_on zero n g =
      let e : 0 + n ≡ n = omega arith in
      let s = ap (λ m. entered_sum a m g) e in
      omega (arith, ints, s)
  sum_on (suc i) n g =
      let e : suc i + n ≡ suc (i + n) = omega arith in
      let s = ap (λ m. entered_sum a m g) e in
      let ih = sum_on i n (outer a g).corner in
      omega (arith, ints, s, ih)

  module _ (linked : AreLinked a) where
    pub led_known : (n g : ℕ) → g < length a.corners → led a n g < length a.corners
    led_known zero g l = l
    led_known (suc n) g l = led_known n (outer a g).corner (linked g l)
