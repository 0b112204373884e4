-- No derived rank is over 25,600,020,000.
use Rattle.std.proofs.Common.{◌≡◌, ◌≢◌, ℕ, zero, suc, ◌*◌, ◌<◌, ◌≤◌, ◌⊎◌, inl, inr, arith, ℤ, pos, negsuc, ◌*ℤ◌, ◌≤ℤ◌}
use Rattle.std.proofs.lemmas.Int.{ints}
use Rattle.std.proofs.lemmas.Bool.{cases_eq}
use Rattle.std.proofs.Math.Nat.{mul-le-mul}
use Rattle.tree_model.specs.Automata.{TreeAutomaton, outer}
use Rattle.tree_model.specs.OuterLinks.{led, entered_sum}
use Rattle.tree_laws.specs.Ranks.{corner_count, link_sum, natural, greatest, sum_into, derived_rank}
use Rattle.tree_model.specs.OuterLinks.{entered}
use Rattle.tree_model.proofs.OuterLinks.{AreLinked}

greatest_most : (n : ℕ) (f : ℕ → ℕ) (m : ℕ) → ((i : ℕ) → i < n → f i ≤ m) → greatest n f ≤ m
greatest_most zero f m h = omega arith
greatest_most (suc n) f m h =
    let a = h n (omega arith) in
    let b = greatest_most n f m (λ i l. h i (omega (arith, l))) in
    omega (arith, a, b)

times_most : (n m : ℕ) (s : ℤ) → s ≤ℤ pos m → (pos n *ℤ s) ≤ℤ pos (n * m)
times_most n m (pos k) l =
    let less : k ≤ m = omega (arith, ints, l) in
    let same : n ≤ n = omega arith in
    let h : n * k ≤ n * m = mul-le-mul same less in
    omega (arith, ints, h)
times_most n m (negsuc k) l = omega (arith, ints)

natural_most : (z : ℤ) (m : ℕ) → z ≤ℤ pos m → natural z ≤ m
natural_most (pos k) m l = omega (arith, ints, l)
natural_most (negsuc k) m l = omega arith

module _ (a : TreeAutomaton) (few : corner_count a ≤ 20000) (linked : AreLinked a) (low : (g : ℕ) → g < corner_count a → entered a g ≤ℤ pos 64) where
  sum_fits : (n y : ℕ) → y < corner_count a → entered_sum a n y ≤ℤ pos (64 * n)
  sum_fits zero y l = omega (arith, ints)
  sum_fits (suc n) y l =
      let i = sum_fits n (outer a y).corner (linked y l) in
      omega (arith, ints, i, low y l)

  sum_most : (n x : ℕ) → n ≤ corner_count a → x < corner_count a → link_sum a n x ≤ℤ pos 25600020000
  sum_most n x up l =
      let s = sum_fits n x l in
      let t = times_most (corner_count a) (64 * n) (entered_sum a n x) s in
      let v : 64 * n ≤ 1280000 = omega (arith, up, few) in
      let u : corner_count a * (64 * n) ≤ 20000 * 1280000 = mul-le-mul few v in
      omega (arith, ints, t, u, up, few)

  sum_into_most : (g n x : ℕ) → n ≤ corner_count a → x < corner_count a → sum_into a g n x ≤ 25600020000
  sum_into_most g n x up l = go (cases_eq (led a n x) g)
    where
      go : (led a n x ≡ g) ⊎ (led a n x ≢ g) → sum_into a g n x ≤ 25600020000
      go (inl e) = let h = natural_most (link_sum a n x) 25600020000 (sum_most n x up l) in grind (arith, e, h)
      go (inr d) = grind (arith, d)

  pub rank_small : (g : ℕ) → derived_rank a g ≤ 25600020000
  unfolding derived_rank
  rank_small g =
      greatest_most (suc (corner_count a)) (λ n. greatest (corner_count a) (λ x. sum_into a g n x)) 25600020000
      (λ n h. greatest_most (corner_count a) (λ x. sum_into a g n x) 25600020000 (λ x l. sum_into_most g n x (omega (arith, h)) l))
