-- The conditions on corner types: one change across the key edge, a small one, and cycles of outer
-- links that fall.
use Rattle.std.proofs.Common.{◌≡◌, ℕ, zero, suc, ◌+◌, ◌-◌, ◌<◌, ◌≤◌, inl, inr, refl, sym, ap, ap₂, ◌∙◌, subst, arith, pos, ◌-ℤ◌}
use Rattle.std.specs.Prelude.{◌≤ℤ◌, ◌<ℤ◌, nat_abs}
use Rattle.std.proofs.lemmas.Int.{ints}
use Rattle.std.proofs.lemmas.Bool.{cases_lt}
use Rattle.tree_model.specs.Automata.{TreeAutomaton, offset, corner_valence, outer}
use Rattle.tree_model.specs.OuterLinks.{led, entered_sum}
use Rattle.tree_model.specs.declared.Claim.{Claim}
use Rattle.tree_model.specs.Conditions.{HasOffsets, HasOuter, HasOneChange, HasSmallChange, HasFallingCycles}
use Rattle.regular_maker.specs.Corners.{half, parity, depth_at, outer_of}
use Rattle.regular_maker.specs.Automaton.{regular_automaton}
use Rattle.regular_maker.proofs.Shapes.{IsShape, half_least}
use Rattle.regular_maker.proofs.Children.{depth_down, depth_up}
use Rattle.regular_maker.proofs.Tables.{corner_count, valence_is, offset_is, outer_is}

module _ (p q : ℕ) (shape : IsShape p q) where
  abbrev A : TreeAutomaton
  A = regular_automaton p q

  -- the type and the place of the outer corner
  outer_corner : (g : ℕ) → (outer_of q g).corner ≡ parity q - g
  unfolding outer_of
  outer_corner g = refl

  outer_place : (g : ℕ) → (outer_of q g).place ≡ (half q - 1) + (parity q - g)
  unfolding outer_of
  outer_place g = refl

  -- the depth of the last tile: as deep as the tile at place 0, or one less
  last_depth : (g : ℕ) → g ≤ parity q → depth_at q g (q - 1) ≡ pos (parity q) -ℤ pos (suc g)
  last_depth g h =
      let more : half q < q - 1 = omega (arith, shape.tiles, shape.halves, shape.parity) in
      omega (arith, ints, depth_up q g (q - 1) more, shape.halves, shape.tiles)

  -- the depths at the place of the outer corner and behind it
  entered_depth : (g : ℕ) → g ≤ parity q
      → depth_at q (parity q - g) ((half q - 1) + (parity q - g))
      ≡ pos 0 -ℤ pos ((half q - 1) + (parity q - g))
  entered_depth g h = depth_down q (parity q - g) ((half q - 1) + (parity q - g))
      (omega (arith, half_least p q shape, shape.parity))

  left_depth : (g : ℕ) → g ≤ parity q
      → depth_at q (parity q - g) (suc ((half q - 1) + (parity q - g)))
      ≡ (pos (parity q) -ℤ pos (suc g)) -ℤ pos ((half q - 1) + (parity q - g))
  left_depth g h = elim (cases_lt g (parity q)) [
    | inl less ↦
        let one : parity q - g ≡ 1 = omega (arith, less, shape.parity) in
        let least = half_least p q shape in
        let up = depth_up q (parity q - g) (suc ((half q - 1) + (parity q - g)))
        (omega (arith, one, least)) in
        omega (arith, ints, up, one, least, h)
    | inr more ↦
        let none : parity q - g ≡ 0 = omega (arith, more) in
        let least = half_least p q shape in
        let down = depth_down q (parity q - g) (suc ((half q - 1) + (parity q - g)))
        (omega (arith, none, least)) in
        omega (arith, ints, down, none, least, h)
  ]

  small_depth : (g t : ℕ) → g ≤ parity q → t < q → nat_abs (depth_at q g t) ≤ 64
  small_depth g t h f = elim (cases_lt (half q) t) [
    | inl more ↦ omega (
      arith,
      ints,
      depth_up q g t more,
      f,
      h,
      shape.tiles,
      shape.halves,
      shape.parity,
    )
    | inr less ↦ omega (arith, ints, depth_down q g t less, f, h, shape.tiles)
  ]

  pub has_offsets : (g : ℕ) → g ≤ parity q → HasOffsets A g
  has_offsets g h =
      let v = valence_is p q g h in
      record {
        count = (omega (arith, v, shape.tiles), omega (arith, v, shape.tiles));
        first = offset_is p q g 0 h (omega (arith, shape.tiles)) ∙ depth_down q g 0 (omega arith);
        small = λ t less.
            let f : t < q = omega (arith, v, less) in
            omega (arith, ap nat_abs (offset_is p q g t h f), small_depth g t h f);
      }

  -- the outer corner is a corner type
  outer_known : (g : ℕ) → parity q - g ≤ parity q
  outer_known g = omega arith

  reads_corner : (g : ℕ) → g ≤ parity q → (outer A g).corner ≡ parity q - g
  reads_corner g h = ap (λ (c : Claim). c.corner) (outer_is p q g h) ∙ outer_corner g

  reads_place : (g : ℕ) → g ≤ parity q → (outer A g).place ≡ (half q - 1) + (parity q - g)
  reads_place g h = ap (λ (c : Claim). c.place) (outer_is p q g h) ∙ outer_place g

  place_inside : (g : ℕ) → suc ((half q - 1) + (parity q - g)) < q
  place_inside g = omega (arith, half_least p q shape, shape.tiles, shape.halves, shape.parity)

  pub has_outer : (g : ℕ) → g ≤ parity q → HasOuter A g
  has_outer g h =
      let corner = reads_corner g h in
      let v : corner_valence A (outer A g).corner ≡ q = ap (corner_valence A) corner
      ∙ valence_is p q (parity q - g) (outer_known g) in
      (omega (arith, corner, corner_count p q), omega (arith, reads_place g h, v, place_inside g))

  -- the depths that the conditions read
  reads_entered : (g : ℕ) → g ≤ parity q
      → offset A (outer A g).corner (outer A g).place ≡ pos 0 -ℤ pos ((half q - 1) + (parity q - g))
  reads_entered g h =
      ap₂ (offset A) (reads_corner g h) (reads_place g h)
      ∙ offset_is p q (parity q - g) ((half q - 1) + (parity q - g)) (outer_known g)
      (omega (arith, place_inside g)) ∙ entered_depth g h

  reads_left : (g : ℕ) → g ≤ parity q
      → offset A (outer A g).corner (suc (outer A g).place)
      ≡ (pos (parity q) -ℤ pos (suc g)) -ℤ pos ((half q - 1) + (parity q - g))
  reads_left g h =
      ap₂ (λ f t. offset A f (suc t)) (reads_corner g h) (reads_place g h)
      ∙ offset_is p q (parity q - g) (suc ((half q - 1) + (parity q - g))) (outer_known g)
      (place_inside g) ∙ left_depth g h

  reads_last : (g : ℕ) → g ≤ parity q
      → offset A g (corner_valence A g - 1) ≡ pos (parity q) -ℤ pos (suc g)
  reads_last g h =
      ap (λ v. offset A g (v - 1)) (valence_is p q g h)
      ∙ offset_is p q g (q - 1) h (omega (arith, shape.tiles)) ∙ last_depth g h

  pub one_change : (g : ℕ) → g ≤ parity q → HasOneChange A g
  one_change g h = omega
      (arith, ints, reads_entered g h, reads_left g h, reads_last g h, (has_offsets g h).first)

  pub small_change : (g : ℕ) → g ≤ parity q → HasSmallChange A g
  small_change g h = (
    omega (arith, ints, reads_last g h, h),
    omega (arith, ints, reads_last g h, shape.parity),
  )

  -- along outer links no offset is entered that is above 0
  none_rises : (n g : ℕ) → g ≤ parity q → entered_sum A n g ≤ℤ pos 0
  none_rises zero g h = omega (arith, ints)
  none_rises (suc n) g h =
      let on : (outer A g).corner ≤ parity q = omega (arith, reads_corner g h) in
      omega (arith, ints, reads_entered g h, none_rises n (outer A g).corner on)

  -- the one that is entered from corner type 0 is below 0
  zero_falls : (n : ℕ) → entered_sum A (suc n) 0 <ℤ pos 0
  zero_falls n =
      let h : 0 ≤ parity q = omega arith in
      let on : (outer A 0).corner ≤ parity q = omega (arith, reads_corner 0 h) in
      omega (
        arith,
        ints,
        reads_entered 0 h,
        none_rises n (outer A 0).corner on,
        shape.tiles,
        shape.halves,
        shape.parity,
        half_least p q shape,
      )

  -- a cycle through corner type 1 leads through corner type 0
  one_falls : (n : ℕ) → 1 ≤ parity q → led A (suc n) 1 ≡ 1 → entered_sum A (suc n) 1 <ℤ pos 0
  one_falls zero h e = absurd (omega (arith, e, reads_corner 1 h, shape.parity))
  one_falls (suc n) h e =
      let there : (outer A 1).corner ≡ 0 = omega (arith, reads_corner 1 h, shape.parity) in
      let rest : entered_sum A (suc n) (outer A 1).corner <ℤ pos 0
      = subst (λ g. entered_sum A (suc n) g <ℤ pos 0) (sym there) (zero_falls n) in
      omega (arith, ints, reads_entered 1 h, rest)

  pub falling_cycles : (g : ℕ) → g ≤ parity q → HasFallingCycles A g
  falling_cycles zero h = λ n e. zero_falls n
  falling_cycles (suc zero) h = λ n e. one_falls n h e
  falling_cycles (suc (suc g)) h = absurd (omega (arith, h, shape.parity))
