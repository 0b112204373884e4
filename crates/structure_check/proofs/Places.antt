-- From what the checks find to conditions that hold below a number, and to the first broken place.
use Rattle.std.proofs.Common.{◌≡◌, ℕ, suc, ◌<◌, ◌≤◌, inl, inr, List, length, refl, subst, sym, arith}
use Rattle.std.proofs.Math.Nat.{eq-or-lt_of_le}
use Rattle.tile_model.specs.Tessellations.{TileKind}
use Rattle.tree_model.specs.Automata.{TreeAutomaton, side_count}
use Rattle.tree_model.specs.Conditions.{IsClosedTable, IsAccepted, AtEverySide, HasFallingCycles}
use Rattle.structure_check.specs.Broken.{IsReadAt, IsFirstBroken, Holds, PartHolds, part_size}
use Rattle.structure_check.specs.Search.{HoldBelow, PartsBelow, StatesBelow, SideHolds, IsSideReady, side_number, IsPartReady, part_number, CornerHolds, HasCorners, corner_number}
use Rattle.structure_check.specs.declared.table.TablePart.{TablePart}
use Rattle.structure_check.specs.declared.table.TablePart.TheVariants.{Limits, Roots, Offsets, Outers, Sizes, Targets}
use Rattle.structure_check.specs.declared.sides.SideCondition.{SideCondition}
use Rattle.structure_check.specs.declared.sides.SideCondition.TheVariants.{Parents, ChildTypes, Valences, FirstPlaces, LastPlaces, OutersBefore, OutersBehind, ChildClaims}
use Rattle.structure_check.specs.declared.corners.CornerCondition.{CornerCondition}
use Rattle.structure_check.specs.declared.corners.CornerCondition.TheVariants.{OneChange, SmallChange}

module _ (kinds : List TileKind) (a : TreeAutomaton) where
  -- a place of each sort
  part_place : (index part : ℕ) → part ≤ 5 → index < part_size kinds a part → IsReadAt kinds a 1 index part
  part_place index part few below = record { number = (omega arith, omega arith); part = λ _. (few, below); side = λ low high. absurd (omega arith); corner = λ low. absurd (omega arith) }

  side_place : (c s i : ℕ) → 2 ≤ c → c ≤ 9 → s < length a.states → i < side_count kinds a s → IsReadAt kinds a c s i
  side_place c s i low high state side = record { number = (omega arith, omega arith); part = λ e. absurd (omega arith); side = λ _ _. (state, side); corner = λ e. absurd (omega arith) }

  corner_place : (c g : ℕ) → 10 ≤ c → c ≤ 12 → g < length a.corners → IsReadAt kinds a c g 0
  corner_place c g low high corner = record { number = (omega arith, omega arith); part = λ e. absurd (omega arith); side = λ l h. absurd (omega arith); corner = λ _. (corner, refl) }

  -- a condition on sides by its number
  side_low : (c : SideCondition) → 2 ≤ side_number c
  side_low Parents = omega arith
  side_low ChildTypes = omega arith
  side_low Valences = omega arith
  side_low FirstPlaces = omega arith
  side_low LastPlaces = omega arith
  side_low OutersBefore = omega arith
  side_low OutersBehind = omega arith
  side_low ChildClaims = omega arith

  side_high : (c : SideCondition) → side_number c ≤ 9
  side_high Parents = omega arith
  side_high ChildTypes = omega arith
  side_high Valences = omega arith
  side_high FirstPlaces = omega arith
  side_high LastPlaces = omega arith
  side_high OutersBefore = omega arith
  side_high OutersBehind = omega arith
  side_high ChildClaims = omega arith

  holds_side : (c : SideCondition) (s i : ℕ) → SideHolds c kinds a s i → Holds kinds a (side_number c) s i
  unfolding Holds
  holds_side Parents s i h = h
  holds_side ChildTypes s i h = h
  holds_side Valences s i h = h
  holds_side FirstPlaces s i h = h
  holds_side LastPlaces s i h = h
  holds_side OutersBefore s i h = h
  holds_side OutersBehind s i h = h
  holds_side ChildClaims s i h = h

  side_holds : (c : SideCondition) (s i : ℕ) → Holds kinds a (side_number c) s i → SideHolds c kinds a s i
  unfolding Holds
  side_holds Parents s i h = h
  side_holds ChildTypes s i h = h
  side_holds Valences s i h = h
  side_holds FirstPlaces s i h = h
  side_holds LastPlaces s i h = h
  side_holds OutersBefore s i h = h
  side_holds OutersBehind s i h = h
  side_holds ChildClaims s i h = h

  -- one more condition: below the next number all hold
  hold_more : (c : ℕ) → HoldBelow kinds a c → ((f s : ℕ) → IsReadAt kinds a c f s → Holds kinds a c f s) → HoldBelow kinds a (suc c)
  hold_more c below at b f s less place =
      let le : b ≤ c = omega arith in
      elim (eq-or-lt_of_le le) [
        | inl same ↦ subst (λ (x : ℕ). IsReadAt kinds a x f s → Holds kinds a x f s) (sym same) (at f s) place
        | inr lower ↦ below b f s lower place
      ]

  -- a condition that holds at all sides of all states
  pub sides_hold : (c : SideCondition) → HoldBelow kinds a (side_number c) → StatesBelow c kinds a (length a.states) → HoldBelow kinds a (suc (side_number c))
  sides_hold c below all = hold_more (side_number c) below (λ f s place.
      let at : (f < length a.states) × (s < side_count kinds a f) = place.side (side_low c) (side_high c) in
      holds_side c f s (all f s at.0 at.1))

  -- a condition that fails at a side, and holds at the sides before it and in the states before its state
  pub side_fails : (c : SideCondition) (s i : ℕ) → HoldBelow kinds a (side_number c) → s < length a.states → i < side_count kinds a s → ¬ (SideHolds c kinds a s i)
      → StatesBelow c kinds a s → ((j : ℕ) → j < i → SideHolds c kinds a s j) → IsFirstBroken kinds a (side_number c) s i
  side_fails c s i below state side fails states sides = record {
    place = side_place (side_number c) s i (side_low c) (side_high c) state side;
    fails = λ h. fails (side_holds c s i h);
    places_before = λ f j place before.
        let at : (f < length a.states) × (j < side_count kinds a f) = place.side (side_low c) (side_high c) in
        holds_side c f j (elim (before.other (side_low c)) [
          | inl less ↦ states f j less at.1
          | inr same ↦ subst (λ (x : ℕ). SideHolds c kinds a x j) (sym same.0) (sides j same.1)
        ]);
    conditions_before = below;
  }

  -- conditions on corner types
  corner_low : (c : CornerCondition) → 10 ≤ corner_number c
  corner_low OneChange = omega arith
  corner_low SmallChange = omega arith

  corner_high : (c : CornerCondition) → corner_number c ≤ 12
  corner_high OneChange = omega arith
  corner_high SmallChange = omega arith

  holds_corner : (c : CornerCondition) (g : ℕ) → CornerHolds c a g → Holds kinds a (corner_number c) g 0
  unfolding Holds
  holds_corner OneChange g h = h
  holds_corner SmallChange g h = h

  corner_holds : (c : CornerCondition) (g : ℕ) → Holds kinds a (corner_number c) g 0 → CornerHolds c a g
  unfolding Holds
  corner_holds OneChange g h = h
  corner_holds SmallChange g h = h

  pub corners_hold : (c : CornerCondition) → ((g : ℕ) → g < length a.corners → CornerHolds c a g) → HoldBelow kinds a (corner_number c) → HoldBelow kinds a (suc (corner_number c))
  corners_hold c all below = hold_more (corner_number c) below (λ f s place.
      let at : (f < length a.corners) × (s ≡ 0) = place.corner (corner_low c) in
      subst (λ (x : ℕ). Holds kinds a (corner_number c) f x) (sym at.1) (holds_corner c f (all f at.0)))

  pub corner_fails : (c : CornerCondition) (g : ℕ) → g < length a.corners → ¬ (CornerHolds c a g) → ((f : ℕ) → f < g → CornerHolds c a f)
      → HoldBelow kinds a (corner_number c) → IsFirstBroken kinds a (corner_number c) g 0
  corner_fails c g corner fails corners below = record {
    place = corner_place (corner_number c) g (corner_low c) (corner_high c) corner;
    fails = λ h. fails (corner_holds c g h);
    places_before = λ f s place before.
        let at : (f < length a.corners) × (s ≡ 0) = place.corner (corner_low c) in
        let low : 10 ≤ corner_number c = corner_low c in
        elim (before.other (omega arith)) [
          | inl less ↦ subst (λ (x : ℕ). Holds kinds a (corner_number c) f x) (sym at.1) (holds_corner c f (corners f less))
          | inr same ↦ absurd (omega (arith, same.1))
        ];
    conditions_before = below;
  }

  -- parts of C1
  pub parts_hold : PartsBelow kinds a 6 → HoldBelow kinds a 2
  unfolding Holds
  parts_hold parts b f s less place =
      let one : b ≡ 1 = omega (arith, place.number.0) in
      let at : (s ≤ 5) × (f < part_size kinds a s) = place.part one in
      subst (λ (x : ℕ). Holds kinds a x f s) (sym one) (parts s f (omega (arith, at.0)) at.1)

  nothing_below : HoldBelow kinds a 1
  nothing_below b f s less place = absurd (omega (arith, place.number.0))

  pub part_fails : (p index : ℕ) → p ≤ 5 → PartsBelow kinds a p → index < part_size kinds a p → ¬ (PartHolds kinds a p index)
      → ((j : ℕ) → j < index → PartHolds kinds a p j) → IsFirstBroken kinds a 1 index p
  unfolding Holds
  part_fails p index few parts below fails indices = record {
    place = part_place index p few below;
    fails = fails;
    places_before = λ f s place before.
        let at : (s ≤ 5) × (f < part_size kinds a s) = place.part refl in
        elim (before.part refl) [
          | inl less ↦ parts s f less at.1
          | inr same ↦ subst (λ (x : ℕ). PartHolds kinds a x f) (sym same.0) (indices f same.1)
        ];
    conditions_before = nothing_below;
  }

  pub one_more_part : (p : ℕ) → PartsBelow kinds a p → ((index : ℕ) → index < part_size kinds a p → PartHolds kinds a p index) → PartsBelow kinds a (suc p)
  one_more_part p below at part index less within =
      let le : part ≤ p = omega arith in
      elim (eq-or-lt_of_le le) [
        | inl same ↦ subst (λ (x : ℕ). index < part_size kinds a x → PartHolds kinds a x index) (sym same) (at index) within
        | inr lower ↦ below part index lower within
      ]

  -- what the conditions below a number give
  pub closed : (c : ℕ) → 2 ≤ c → HoldBelow kinds a c → IsClosedTable kinds a
  unfolding Holds PartHolds
  closed c enough below =
      let part : (p index : ℕ) → p ≤ 5 → index < part_size kinds a p → PartHolds kinds a p index
      = λ (p index : ℕ) (few : p ≤ 5) (within : index < part_size kinds a p). below 1 index p enough (part_place index p few within) in
      record {
        limits = part 0 0 (omega arith) (omega arith);
        root = λ k less. part 1 k (omega arith) less;
        offsets = λ g less. part 2 g (omega arith) less;
        outer = λ g less. part 3 g (omega arith) less;
        tables = λ s less. part 4 s (omega arith) less;
        targets = λ s less. part 5 s (omega arith) less;
      }

  -- the condition on cycles
  falling : (g : ℕ) → Holds kinds a 12 g 0 → HasFallingCycles a g
  unfolding Holds
  falling g h = h

  holds_falling : (g : ℕ) → HasFallingCycles a g → Holds kinds a 12 g 0
  unfolding Holds
  holds_falling g h = h

  pub cycles_hold : ((g : ℕ) → g < length a.corners → HasFallingCycles a g) → HoldBelow kinds a 12 → HoldBelow kinds a 13
  cycles_hold all below = hold_more 12 below (λ f s place.
      let at : (f < length a.corners) × (s ≡ 0) = place.corner (omega arith) in
      subst (λ (x : ℕ). Holds kinds a 12 f x) (sym at.1) (holds_falling f (all f at.0)))

  pub cycle_fails : (g : ℕ) → g < length a.corners → ¬ (HasFallingCycles a g) → ((f : ℕ) → f < g → HasFallingCycles a f) → HoldBelow kinds a 12 → IsFirstBroken kinds a 12 g 0
  cycle_fails g corner fails falls below = record {
    place = corner_place 12 g (omega arith) (omega arith) corner;
    fails = λ h. fails (falling g h);
    places_before = λ f s place before.
        let at : (f < length a.corners) × (s ≡ 0) = place.corner (omega arith) in
        elim (before.other (omega arith)) [
          | inl less ↦ subst (λ (x : ℕ). Holds kinds a 12 f x) (sym at.1) (holds_falling f (falls f less))
          | inr same ↦ absurd (omega (arith, same.1))
        ];
    conditions_before = below;
  }

  at_sides : (c : SideCondition) (n : ℕ) → side_number c < n → HoldBelow kinds a n → AtEverySide kinds a (SideHolds c kinds a)
  at_sides c n less below = λ s i state side. side_holds c s i (below (side_number c) s i less (side_place (side_number c) s i (side_low c) (side_high c) state side))

  at_corners : (c : CornerCondition) (n : ℕ) → corner_number c < n → HoldBelow kinds a n → (g : ℕ) → g < length a.corners → CornerHolds c a g
  at_corners c n less below = λ g corner. corner_holds c g (below (corner_number c) g 0 less (corner_place (corner_number c) g (corner_low c) (corner_high c) corner))

  pub part_ready : (part : TablePart) → PartsBelow kinds a (part_number part) → IsPartReady part kinds a
  unfolding PartHolds
  part_ready Limits below = tt
  part_ready Roots below = below 0 0 (omega arith) (omega arith)
  part_ready Offsets below = below 0 0 (omega arith) (omega arith)
  part_ready Outers below = below 0 0 (omega arith) (omega arith)
  part_ready Sizes below = below 0 0 (omega arith) (omega arith)
  part_ready Targets below = (below 0 0 (omega arith) (omega arith), λ s state. below 4 s (omega arith) state)

  pub part_high : (part : TablePart) → part_number part ≤ 5
  part_high Limits = omega arith
  part_high Roots = omega arith
  part_high Offsets = omega arith
  part_high Outers = omega arith
  part_high Sizes = omega arith
  part_high Targets = omega arith

  pub side_ready : (c : SideCondition) → HoldBelow kinds a (side_number c) → IsSideReady c kinds a
  side_ready Parents below = tt
  side_ready ChildTypes below = tt
  side_ready Valences below = tt
  side_ready FirstPlaces below = tt
  side_ready LastPlaces below = tt
  side_ready OutersBefore below = tt
  side_ready OutersBehind below = tt
  side_ready ChildClaims below = (at_sides FirstPlaces 9 (omega arith) below, at_sides LastPlaces 9 (omega arith) below)

  pub closed_at_side : (c : SideCondition) → HoldBelow kinds a (side_number c) → IsClosedTable kinds a
  closed_at_side c below = closed (side_number c) (side_low c) below

  pub corners_ready : (c : ℕ) → 2 ≤ c → HoldBelow kinds a c → HasCorners a
  corners_ready c enough below =
      let table : IsClosedTable kinds a = closed c enough below in
      record { count = table.limits.corners.1; offsets = table.offsets; outer = table.outer }

  pub accepted : HoldBelow kinds a 13 → IsAccepted kinds a
  accepted below = record {
    c1 = closed 13 (omega arith) below;
    c2 = at_sides Parents 13 (omega arith) below;
    c3 = at_sides ChildTypes 13 (omega arith) below;
    c4 = at_sides Valences 13 (omega arith) below;
    c5 = at_sides FirstPlaces 13 (omega arith) below;
    c6 = at_sides LastPlaces 13 (omega arith) below;
    c7 = at_sides OutersBefore 13 (omega arith) below;
    c8 = at_sides OutersBehind 13 (omega arith) below;
    c9 = at_sides ChildClaims 13 (omega arith) below;
    c10 = at_corners OneChange 13 (omega arith) below;
    c11 = at_corners SmallChange 13 (omega arith) below;
    c12 = λ g corner. falling g (below 12 g 0 (omega arith) (corner_place 12 g (omega arith) (omega arith) corner));
  }
