-- The derived rank grows along each outer link, by more than N times the entered offset.
use Rattle.std.proofs.Common.{◌≡◌, ◌≢◌, ℕ, zero, suc, ◌+◌, ◌<◌, ◌≤◌, ◌⊎◌, inl, inr, refl, sym, ap, ◌∙◌, arith, ℤ, pos, negsuc, ◌+ℤ◌, ◌*ℤ◌, ◌<ℤ◌, ◌≤ℤ◌}
use Rattle.std.proofs.lemmas.Int.{ints}
use Rattle.std.proofs.lemmas.Bool.{cases_eq, cases_lt}
use Rattle.tree_model.specs.Automata.{TreeAutomaton, outer}
use Rattle.tree_laws.proofs.Weights.{spread}
use Rattle.tree_model.specs.OuterLinks.{entered, led, entered_sum}
use Rattle.tree_model.specs.Conditions.{HasFallingCycles}
use Rattle.tree_laws.specs.Ranks.{corner_count, link_sum, natural, greatest, sum_into, derived_rank}
use Rattle.tree_model.proofs.OuterLinks.{AreLinked, led_on, sum_on}
use Rattle.tree_laws.proofs.Cuts.{cut}

pub greatest_at : (n : ℕ) (f : ℕ → ℕ) (i : ℕ) → i < n → f i ≤ greatest n f
greatest_at zero f i l = absurd (omega (arith, l))
greatest_at (suc n) f i l = go (greatest_at n f i) (cases_eq i n)
  where
    go : (i < n → f i ≤ greatest n f) → (i ≡ n) ⊎ (i ≢ n) → f i ≤ greatest (suc n) f
    go ih (inl e) = let h = ap f e in omega (arith, h)
    go ih (inr d) = let h = ih (omega (arith, l, d)) in omega (arith, h)

pub greatest_found : (n : ℕ) (f : ℕ → ℕ) → (greatest n f ≡ 0) ⊎ ((i : ℕ) × (i < n) × (greatest n f ≡ f i))
greatest_found zero f = inl refl
greatest_found (suc n) f = go (cases_lt (greatest n f) (f n)) (greatest_found n f)
  where
    go : (greatest n f < f n) ⊎ (f n ≤ greatest n f) → (greatest n f ≡ 0) ⊎ ((i : ℕ) × (i < n) × (greatest n f ≡ f i))
        → (greatest (suc n) f ≡ 0) ⊎ ((i : ℕ) × (i < suc n) × (greatest (suc n) f ≡ f i))
    go (inl l) _ = inr (n, omega arith, omega (arith, l))
    go (inr h) (inl e) = inl (omega (arith, h, e))
    go (inr h) (inr (i, l, e)) = inr (i, omega (arith, l), omega (arith, h, e))

at_most_natural : (z : ℤ) → z ≤ℤ pos (natural z)
at_most_natural (pos n) = omega (arith, ints)
at_most_natural (negsuc n) = omega (arith, ints)

natural_is : (z : ℤ) (n : ℕ) → natural z ≡ suc n → z ≡ pos (suc n)
natural_is (pos m) n e = ap pos e
natural_is (negsuc m) n e = absurd (omega (arith, e))

module _ (a : TreeAutomaton) where
  sum_there : (g n x : ℕ) → led a n x ≡ g → sum_into a g n x ≡ natural (link_sum a n x)
  sum_there g n x e = grind (arith, e)

  sum_found : (g n x m : ℕ) → sum_into a g n x ≡ suc m → (led a n x ≡ g) × (link_sum a n x ≡ pos (suc m))
  sum_found g n x m e = go (cases_eq (led a n x) g)
    where
      go : (led a n x ≡ g) ⊎ (led a n x ≢ g) → (led a n x ≡ g) × (link_sum a n x ≡ pos (suc m))
      go (inl s) = (s, natural_is (link_sum a n x) m (sym (sum_there g n x s) ∙ e))
      go (inr d) = absurd (grind (arith, e, d))

  -- no list of at most N links that ends in g has a greater sum
  pub rank_most : (g n x : ℕ) → n ≤ corner_count a → x < corner_count a → led a n x ≡ g → link_sum a n x ≤ℤ pos (derived_rank a g)
  unfolding derived_rank
  rank_most g n x few l e =
      let h = greatest_at (corner_count a) (λ y. sum_into a g n y) x l in
      let k = greatest_at (suc (corner_count a)) (λ m. greatest (corner_count a) (λ y. sum_into a g m y)) n (omega (arith, few)) in
      let z = at_most_natural (link_sum a n x) in
      omega (arith, ints, h, k, z, sum_there g n x e)

  -- and one has this sum
  pub record Best (g : ℕ) : Type 0 where
    pub links : ℕ
    pub start : ℕ
    pub few : links ≤ corner_count a
    pub known : start < corner_count a
    pub ends : led a links start ≡ g
    pub sum : link_sum a links start ≡ pos (derived_rank a g)

  pub best : (g : ℕ) → g < corner_count a → Best g
  unfolding derived_rank
  best g l = go (greatest_found (suc (corner_count a)) (λ m. greatest (corner_count a) (λ y. sum_into a g m y)))
    where
      none : derived_rank a g ≡ 0 → Best g
      none e =
          let s : link_sum a 0 g ≡ pos 0 = spread_none (corner_count a) in
          record { links = 0; start = g; few = omega arith; known = l; ends = refl; sum = s ∙ ap pos (sym e) }
        where
          spread_none : (n : ℕ) → (pos n *ℤ pos 0) +ℤ pos 0 ≡ pos 0
          spread_none n = omega (arith, ints)

      some : (n x m : ℕ) → n < suc (corner_count a) → x < corner_count a → derived_rank a g ≡ sum_into a g n x → sum_into a g n x ≡ m → Best g
      some n x zero h k e f = none (e ∙ f)
      some n x (suc m) h k e f =
          let (s, t) = sum_found g n x m f in
          record { links = n; start = x; few = omega (arith, h); known = k; ends = s; sum = t ∙ ap pos (sym (e ∙ f)) }

      go : (derived_rank a g ≡ 0) ⊎ ((n : ℕ) × (n < suc (corner_count a)) × (derived_rank a g ≡ greatest (corner_count a) (λ y. sum_into a g n y))) → Best g
      go (inl e) = none e
      go (inr (n, h, e)) = inner (greatest_found (corner_count a) (λ y. sum_into a g n y))
        where
          inner : (greatest (corner_count a) (λ y. sum_into a g n y) ≡ 0) ⊎ ((x : ℕ) × (x < corner_count a) × (greatest (corner_count a) (λ y. sum_into a g n y) ≡ sum_into a g n x)) → Best g
          inner (inl f) = none (e ∙ f)
          inner (inr (x, k, f)) = some n x (sum_into a g n x) h k (e ∙ f) refl

  module _ (linked : AreLinked a) (falling : (g : ℕ) → g < corner_count a → HasFallingCycles a g) where
    -- a list with one link more
    one_more : (n x : ℕ) → (led a (suc n) x ≡ (outer a (led a n x)).corner) × (link_sum a (suc n) x ≡ (link_sum a n x +ℤ (pos (corner_count a) *ℤ entered a (led a n x))) +ℤ pos 1)
    one_more n x =
        let e : n + 1 ≡ suc n = omega arith in
        let s = sum_on a n 1 x in
        let t = ap (λ m. entered_sum a m x) e in
        let u : entered_sum a (suc n) x ≡ entered_sum a n x +ℤ entered a (led a n x) = omega (arith, ints, s, t) in
        let w = spread (corner_count a) (entered_sum a (suc n) x) (entered_sum a n x) (entered a (led a n x)) u in
        (ap (λ m. led a m x) (sym e) ∙ led_on a n 1 x, omega (arith, ints, w))

    pub grows : (g : ℕ) → g < corner_count a → (pos (derived_rank a g) +ℤ (pos (corner_count a) *ℤ entered a g)) <ℤ pos (derived_rank a (outer a g).corner)
    grows g l = go (cases_lt b.links (corner_count a))
      where
        b : Best g
        b = best g l

        o : (led a (suc b.links) b.start ≡ (outer a (led a b.links b.start)).corner) × (link_sum a (suc b.links) b.start ≡ (link_sum a b.links b.start +ℤ (pos (corner_count a) *ℤ entered a (led a b.links b.start))) +ℤ pos 1)
        o = one_more b.links b.start

        ends : led a (suc b.links) b.start ≡ (outer a g).corner
        ends = o.0 ∙ ap (λ y. (outer a y).corner) b.ends

        sum : link_sum a (suc b.links) b.start ≡ (pos (derived_rank a g) +ℤ (pos (corner_count a) *ℤ entered a g)) +ℤ pos 1
        sum =
            let e = ap (λ y. pos (corner_count a) *ℤ entered a y) b.ends in
            omega (arith, ints, o.1, b.sum, e)

        done : link_sum a (suc b.links) b.start ≤ℤ pos (derived_rank a (outer a g).corner) → (pos (derived_rank a g) +ℤ (pos (corner_count a) *ℤ entered a g)) <ℤ pos (derived_rank a (outer a g).corner)
        done h = omega (arith, ints, sum, h)

        go : (b.links < corner_count a) ⊎ (corner_count a ≤ b.links) → (pos (derived_rank a g) +ℤ (pos (corner_count a) *ℤ entered a g)) <ℤ pos (derived_rank a (outer a g).corner)
        go (inl h) = done (rank_most (outer a g).corner (suc b.links) b.start (omega (arith, h)) b.known ends)
        go (inr h) =
            let c = cut a linked falling b.start b.known in
            let e : b.links ≡ corner_count a = omega (arith, h, b.few) in
            let same = ap (λ m. led a (suc m) b.start) e in
            let sums = ap (λ m. link_sum a (suc m) b.start) e in
            let m = rank_most (outer a g).corner c.links b.start c.few b.known (c.ends ∙ sym same ∙ ends) in
            done (omega (arith, ints, sums, c.no_less, m))
