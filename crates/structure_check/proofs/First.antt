-- Where all conditions hold no place is the first broken one, and there is one first broken place at most.
use Rattle.std.proofs.lemmas.Bool.{cases_lt}
use Rattle.std.proofs.Common.{◌≡◌, ℕ, ◌<◌, ◌≤◌, inl, inr, List, refl, sym, subst, arith}
use Rattle.std.specs.Prelude.{◌↔◌, Result, OnOk, IfErr, IsNone, IsSomeAnd}
use Rattle.std.specs.declared.result.Result.TheVariants.{Ok, Err}
use Rattle.std.specs.Result.{result_err}
use Rattle.tile_model.specs.Tessellations.{TileKind}
use Rattle.tree_model.specs.Automata.{TreeAutomaton}
use Rattle.tree_model.specs.Conditions.{IsAccepted, IsClosedTable}
use Rattle.structure_check.specs.Broken.{IsReadBefore, IsFirstBroken, PartHolds}
use Rattle.structure_check.specs.Search.{HoldBelow, PartsBelow}
use Rattle.structure_check.specs.declared.broken.Broken.{Broken}
use Rattle.structure_check.specs.declared.sides.SideCondition.TheVariants.{Parents, ChildTypes, Valences, FirstPlaces, LastPlaces, OutersBefore, OutersBehind, ChildClaims}
use Rattle.structure_check.specs.declared.corners.CornerCondition.TheVariants.{OneChange, SmallChange}
use Rattle.structure_check.proofs.Places.{parts_hold, one_more_part, sides_hold, corners_hold, cycles_hold}

module _ (kinds : List TileKind) (a : TreeAutomaton) where
  table_holds : IsClosedTable kinds a → HoldBelow kinds a 2
  unfolding PartHolds
  table_holds closed =
      let p0 : PartsBelow kinds a 0 = λ part index less within. absurd (omega arith) in
      let p1 : PartsBelow kinds a 1 = one_more_part kinds a 0 p0 (λ index within. closed.limits) in
      let p2 : PartsBelow kinds a 2 = one_more_part kinds a 1 p1 (λ index within. closed.root index within) in
      let p3 : PartsBelow kinds a 3 = one_more_part kinds a 2 p2 (λ index within. closed.offsets index within) in
      let p4 : PartsBelow kinds a 4 = one_more_part kinds a 3 p3 (λ index within. closed.outer index within) in
      let p5 : PartsBelow kinds a 5 = one_more_part kinds a 4 p4 (λ index within. closed.tables index within) in
      parts_hold kinds a (one_more_part kinds a 5 p5 (λ index within. closed.targets index within))

  -- all conditions hold everywhere
  all_hold : IsAccepted kinds a → HoldBelow kinds a 13
  all_hold ok =
      let b2 : HoldBelow kinds a 2 = table_holds ok.c1 in
      let b3 : HoldBelow kinds a 3 = sides_hold kinds a Parents b2 ok.c2 in
      let b4 : HoldBelow kinds a 4 = sides_hold kinds a ChildTypes b3 ok.c3 in
      let b5 : HoldBelow kinds a 5 = sides_hold kinds a Valences b4 ok.c4 in
      let b6 : HoldBelow kinds a 6 = sides_hold kinds a FirstPlaces b5 ok.c5 in
      let b7 : HoldBelow kinds a 7 = sides_hold kinds a LastPlaces b6 ok.c6 in
      let b8 : HoldBelow kinds a 8 = sides_hold kinds a OutersBefore b7 ok.c7 in
      let b9 : HoldBelow kinds a 9 = sides_hold kinds a OutersBehind b8 ok.c8 in
      let b10 : HoldBelow kinds a 10 = sides_hold kinds a ChildClaims b9 ok.c9 in
      let b11 : HoldBelow kinds a 11 = corners_hold kinds a OneChange ok.c10 b10 in
      let b12 : HoldBelow kinds a 12 = corners_hold kinds a SmallChange ok.c11 b11 in
      cycles_hold kinds a ok.c12 b12

  pub refutes : (c f s : ℕ) → IsFirstBroken kinds a c f s → IsAccepted kinds a → ⊥
  refutes c f s broken ok = broken.fails (all_hold ok c f s (omega (arith, broken.place.number.1)) broken.place)

  -- no place of the condition that is read before the first broken one is another first broken one
  none_before : (c f s f' s' : ℕ) → IsFirstBroken kinds a c f s → IsFirstBroken kinds a c f' s' → IsReadBefore c f s f' s' → ⊥
  none_before c f s f' s' one other before = one.fails (other.places_before f s one.place before)

  same_place : (c f s f' s' : ℕ) → IsFirstBroken kinds a c f s → IsFirstBroken kinds a c f' s' → (f ≡ f') × (s ≡ s')
  same_place c f s f' s' one other =
      let less : IsReadBefore c f s f' s' → ⊥ = none_before c f s f' s' one other in
      let more : IsReadBefore c f' s' f s → ⊥ = none_before c f' s' f s other one in
      let low : 1 ≤ c = one.place.number.0 in
      elim (cases_lt c 2) [
        | inl part ↦
            let higher : ¬ (s < s') = λ h. less (record { part = λ _. inl h; other = λ two. absurd (omega arith) }) in
            let lower : ¬ (s' < s) = λ h. more (record { part = λ _. inl h; other = λ two. absurd (omega arith) }) in
            let same : s ≡ s' = omega arith in
            let after : ¬ (f < f') = λ h. less (record { part = λ _. inr (same, h); other = λ two. absurd (omega arith) }) in
            let before : ¬ (f' < f) = λ h. more (record { part = λ _. inr (sym same, h); other = λ two. absurd (omega arith) }) in
            (omega arith, same)
        | inr other_part ↦
            let higher : ¬ (f < f') = λ h. less (record { part = λ e. absurd (omega arith); other = λ _. inl h }) in
            let lower : ¬ (f' < f) = λ h. more (record { part = λ e. absurd (omega arith); other = λ _. inl h }) in
            let same : f ≡ f' = omega arith in
            let after : ¬ (s < s') = λ h. less (record { part = λ e. absurd (omega arith); other = λ _. inr (same, h) }) in
            let before : ¬ (s' < s) = λ h. more (record { part = λ e. absurd (omega arith); other = λ _. inr (sym same, h) }) in
            (same, omega arith)
      ]

  pub one_first : (c f s c' f' s' : ℕ) → IsFirstBroken kinds a c f s → IsFirstBroken kinds a c' f' s' → (c ≡ c') × (f ≡ f') × (s ≡ s')
  one_first c f s c' f' s' one other =
      let higher : ¬ (c < c') = λ h. one.fails (other.conditions_before c f s h one.place) in
      let lower : ¬ (c' < c) = λ h. other.fails (one.conditions_before c' f' s' h other.place) in
      let same : c ≡ c' = omega arith in
      let places = same_place c f s f' s' one (subst (λ (x : ℕ). IsFirstBroken kinds a x f' s') (sym same) other) in
      (same, places.0, places.1)

  -- the search finds nothing exactly where all conditions hold
  pub none_exactly : {T : Type 0} (r : Result T Broken) → OnOk r (IsAccepted kinds a) → IfErr r (λ b. IsFirstBroken kinds a b.condition b.first b.second) → IsNone (result_err r) ↔ IsAccepted kinds a
  none_exactly (Ok x) accepted first = ((λ _. accepted), λ _. refl)
  none_exactly (Err b) accepted first = ((λ no. absurd (cc)), λ ok. absurd (refutes b.condition b.first b.second first ok))

  -- and finds each first broken place
  pub every_found : {T : Type 0} (r : Result T Broken) (c f s : ℕ) → OnOk r (IsAccepted kinds a) → IfErr r (λ b. IsFirstBroken kinds a b.condition b.first b.second) → IsFirstBroken kinds a c f s → IsSomeAnd (result_err r) (λ b. (c ≡ b.condition) × (f ≡ b.first) × (s ≡ b.second))
  every_found (Ok x) c f s accepted first broken = absurd (refutes c f s broken accepted)
  every_found (Err b) c f s accepted first broken = one_first c f s b.condition b.first b.second broken first
