-- Turns in a cell: walks that are related stay related when both turn on, and the turns that lead a cell back to itself.
use Rattle.std.proofs.Common.{◌≡◌, ℕ, zero, suc, ◌+◌, ◌-◌, ◌*◌, ◌/◌, ◌%◌, ◌≤◌, List, ◌++◌, replicate, refl, sym, ap, ◌∙◌, subst, arith, append_assoc}
use Rattle.std.proofs.lemmas.List.{append-nil, replicate-append-replicate}
use Rattle.std.proofs.Math.Nat.{mod-add-div}
use Rattle.tile_model.specs.declared.Letter.{Letter}
use Rattle.tile_model.specs.declared.Letter.TheVariants.{L}
use Rattle.tile_model.proofs.Relations.{related_equal, related_back, related_on, related_behind}
use Rattle.coincidence.specs.Atlases.{Atlas, AreOne, walk_of, HasPeriod}

module _ (atlas : Atlas) where
  pub one_equal : {u w : List Letter} → u ≡ w → AreOne atlas u w
  one_equal e = record { related = related_equal atlas.kinds e }

  pub one_back : {u w : List Letter} → AreOne atlas u w → AreOne atlas w u
  one_back h = record { related = related_back atlas.kinds h.related }

  pub one_on : {u v w : List Letter} → AreOne atlas u v → AreOne atlas v w → AreOne atlas u w
  one_on h k = record { related = related_on atlas.kinds h.related k.related }

  pub one_behind : {u w : List Letter} (z : List Letter) → AreOne atlas u w → AreOne atlas (u ++ z) (w ++ z)
  one_behind z h = record { related = related_behind atlas.kinds z h.related }

  -- a dart turned on
  pub turned_on : (c i n : ℕ) → walk_of atlas (c, i) ++ replicate n L ≡ walk_of atlas (c, i + n)
  turned_on c i n = append_assoc (atlas.walk_to c) (replicate i L) (replicate n L) ∙ ap (λ z. atlas.walk_to c ++ z) (replicate-append-replicate i n L)

  pub one_turned : (c i e j n : ℕ) → AreOne atlas (walk_of atlas (c, i)) (walk_of atlas (e, j)) → AreOne atlas (walk_of atlas (c, i + n)) (walk_of atlas (e, j + n))
  one_turned c i e j n h = one_on (one_equal (sym (turned_on c i n))) (one_on (one_behind (replicate n L) h) (one_equal (turned_on e j n)))

  pub at_zero : (c : ℕ) → walk_of atlas (c, 0) ≡ atlas.walk_to c
  at_zero c = append-nil (atlas.walk_to c)

  pub period_is : (c n : ℕ) → HasPeriod atlas c n → AreOne atlas (walk_of atlas (c, n)) (walk_of atlas (c, 0))
  period_is c n h = one_on h (one_equal (sym (at_zero c)))

  pub is_period : (c n : ℕ) → AreOne atlas (walk_of atlas (c, n)) (walk_of atlas (c, 0)) → HasPeriod atlas c n
  is_period c n h = one_on h (one_equal (at_zero c))

  -- a period more makes no difference
  pub period_more : (c n i : ℕ) → HasPeriod atlas c n → AreOne atlas (walk_of atlas (c, n + i)) (walk_of atlas (c, i))
  period_more c n i h =
      let e : 0 + i ≡ i = omega arith in
      subst (λ j. AreOne atlas (walk_of atlas (c, n + i)) (walk_of atlas (c, j))) e (one_turned c n c 0 i (period_is c n h))

  pub periods_more : (c n k i : ℕ) → HasPeriod atlas c n → AreOne atlas (walk_of atlas (c, n * k + i)) (walk_of atlas (c, i))
  periods_more c n zero i h =
      let e : i ≡ n * 0 + i = omega arith in
      subst (λ j. AreOne atlas (walk_of atlas (c, j)) (walk_of atlas (c, i))) e (one_equal refl)
  periods_more c n (suc k) i h =
      let e : n + (n * k + i) ≡ n * suc k + i = omega arith in
      subst (λ j. AreOne atlas (walk_of atlas (c, j)) (walk_of atlas (c, i))) e (one_on (period_more c n (n * k + i) h) (periods_more c n k i h))

  -- a side counts modulo a period
  pub period_mod : (c n i : ℕ) → HasPeriod atlas c n → AreOne atlas (walk_of atlas (c, i)) (walk_of atlas (c, i % n))
  period_mod c n i h =
      let e : n * (i / n) + i % n ≡ i = omega (arith, mod-add-div i n) in
      subst (λ j. AreOne atlas (walk_of atlas (c, j)) (walk_of atlas (c, i % n))) e (periods_more c n (i / n) (i % n) h)

  -- the rest of one period by another is a period
  pub period_rest : (c m n : ℕ) → HasPeriod atlas c m → HasPeriod atlas c n → HasPeriod atlas c (m % n)
  period_rest c m n h k = is_period c (m % n) (one_on (one_back (period_mod c n m k)) (period_is c m h))

  -- two darts of one cell that are one: their difference is a period
  pub period_between : (c t i j : ℕ) → i ≤ t → i ≤ j → HasPeriod atlas c t → AreOne atlas (walk_of atlas (c, i)) (walk_of atlas (c, j)) → HasPeriod atlas c (j - i)
  period_between c t i j h le period same =
      let n = t - i in
      let e : i + n ≡ t = omega (arith, h) in
      let f : j + n ≡ t + (j - i) = omega (arith, h, le) in
      let on : AreOne atlas (walk_of atlas (c, i + n)) (walk_of atlas (c, j + n)) = one_turned c i c j n same in
      let on' : AreOne atlas (walk_of atlas (c, t)) (walk_of atlas (c, t + (j - i))) = subst (λ x. AreOne atlas (walk_of atlas (c, x)) (walk_of atlas (c, t + (j - i)))) e (subst (λ x. AreOne atlas (walk_of atlas (c, i + n)) (walk_of atlas (c, x))) f on) in
      is_period c (j - i) (one_back (one_on (one_back (period_is c t period)) (one_on on' (period_more c t (j - i) period))))

  -- a period of a cell is one of each cell at the same tile
  pub period_moved : (c i e j t m : ℕ) → j ≤ t → HasPeriod atlas e t → AreOne atlas (walk_of atlas (c, i)) (walk_of atlas (e, j)) → HasPeriod atlas c m → HasPeriod atlas e m
  period_moved c i e j t m le period same of_c =
      let n = t - j in
      let at : j + n ≡ t = omega (arith, le) in
      let there : AreOne atlas (walk_of atlas (c, i + n)) (walk_of atlas (e, t)) = subst (λ x. AreOne atlas (walk_of atlas (c, i + n)) (walk_of atlas (e, x))) at (one_turned c i e j n same) in
      let on : AreOne atlas (walk_of atlas (c, i + n + m)) (walk_of atlas (e, t + m)) = one_turned c (i + n) e t m there in
      let swap : i + n + m ≡ m + (i + n) = omega arith in
      let back : AreOne atlas (walk_of atlas (c, i + n + m)) (walk_of atlas (c, i + n)) = subst (λ x. AreOne atlas (walk_of atlas (c, x)) (walk_of atlas (c, i + n))) (sym swap) (period_more c m (i + n) of_c) in
      is_period e m (one_on (one_back (period_more e t m period)) (one_on (one_back on) (one_on back (one_on there (period_is e t period)))))

  -- the first side of a cell, at another cell at the same tile
  pub first_side : (c i e j t g : ℕ) → i ≤ t → HasPeriod atlas c t → HasPeriod atlas e g → AreOne atlas (walk_of atlas (c, i)) (walk_of atlas (e, j)) → AreOne atlas (atlas.walk_to c) (walk_of atlas (e, (j + (t - i)) % g))
  first_side c i e j t g le period of_e same =
      let n = t - i in
      let at : i + n ≡ t = omega (arith, le) in
      let there : AreOne atlas (walk_of atlas (c, t)) (walk_of atlas (e, j + n)) = subst (λ x. AreOne atlas (walk_of atlas (c, x)) (walk_of atlas (e, j + n))) at (one_turned c i e j n same) in
      one_on (one_back period) (one_on there (period_mod e g (j + n) of_e))
