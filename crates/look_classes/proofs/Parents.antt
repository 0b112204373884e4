-- The tree: sides that are in it are joined, and so is what is joined to them; and the contour
-- forwards and backwards.
use Rattle.std.proofs.Common.{◌≡◌, ℕ, zero, suc, ◌<◌, ◌⊎◌, Bool, true, false, ◌||◌, not, cond, nat_eq, Option, Some, None, refl, sym, ap, ◌∙◌, subst, inl, inr, arith, mod-eq_of_lt}
use Rattle.std.proofs.lemmas.Bool.{cases_eq, eqb-true}
use Rattle.std.specs.Option.{option_or, unwrap_or}
use Rattle.coincidence.specs.Tables.{joined_to}
use Rattle.coincidence.specs.Joined.{IsTable}
use Rattle.region_grower.specs.Ways.{IsDart}
use Rattle.region_grower.specs.Regions.{RegionState}
use Rattle.look_classes.specs.Tree.{holds, least_below, sides_of, dart_of, left_of, right_of, leads_nearer, is_last, parent_side, is_parent, is_child, in_tree, distance}
use Rattle.look_classes.specs.Places.{contour_step}
use Rattle.look_classes.specs.Contours.{contour_back}
use Rattle.look_classes.proofs.Cases.{cases, options, both_hold, one_holds, or_turned}
use Rattle.look_classes.proofs.Darts.{left_dart, right_dart, right_left, left_right, joined_dart, joined_back}

pub least_holds : (n : ℕ) (p : ℕ → Bool) (i : ℕ) → least_below n p ≡ Some i → (p i ≡ true) × (i < n)
unfolding least_below
least_holds zero p i e = absurd (cc)
least_holds (suc n) p i e = go (λ h. least_holds n p i h) (least_below n p) refl (cases (p n))
  where
    go : (least_below n p ≡ Some i → (p i ≡ true) × (i < n)) → (o : Option ℕ) → least_below n p ≡ o → (p n ≡ true) ⊎ (p n ≡ false) → (p i ≡ true) × (i < suc n)
    go before (Some k) is _ =
        let at : least_below (suc n) p ≡ Some k = ap (λ o. option_or o (cond (p n) (Some n) None)) is in
        let same : k ≡ i = cc (at, e) in
        let rest = before (is ∙ ap Some same) in
        let lt = rest.1 in
        (rest.0, omega (arith, lt))
    go before None is (inl sure) =
        let at : least_below (suc n) p ≡ Some n = ap (λ o. option_or o (cond (p n) (Some n) None)) is ∙ ap (λ b. cond b (Some n) None) sure in
        let same : n ≡ i = cc (at, e) in
        (subst (λ k. p k ≡ true) same sure, omega (arith, same))
    go before None is (inr fails) =
        let at : least_below (suc n) p ≡ None = ap (λ o. option_or o (cond (p n) (Some n) None)) is ∙ ap (λ b. cond b (Some n) None) fails in
        absurd (cc (at, e))

pub least_found : (n i : ℕ) (p : ℕ → Bool) → least_below i p ≡ None → p i ≡ true → i < n → least_below n p ≡ Some i
unfolding least_below
least_found zero i p none sure lt = absurd (omega (arith, lt))
least_found (suc n) i p none sure lt = go (λ less. least_found n i p none sure less) (cases_eq i n)
  where
    go : (i < n → least_below n p ≡ Some i) → (i ≡ n) ⊎ (i ≡ n → ⊥) → least_below (suc n) p ≡ Some i
    go before (inl e) = subst (λ k. least_below (suc n) p ≡ Some k) (sym e) (ap (λ o. option_or o (cond (p n) (Some n) None)) (subst (λ k. least_below k p ≡ None) e none) ∙ ap (λ b. cond b (Some n) None) (subst (λ k. p k ≡ true) e sure))
    go before (inr other) = ap (λ o. option_or o (cond (p n) (Some n) None)) (before (omega (arith, lt, other)))

pub least_more : (n : ℕ) (p : ℕ → Bool) → least_below n p ≡ None → p n ≡ false → least_below (suc n) p ≡ None
unfolding least_below
least_more n p none fails = ap (λ o. option_or o (cond (p n) (Some n) None)) none ∙ ap (λ b. cond b (Some n) None) fails

pub parent_nearer : (r : RegionState) (c i : ℕ) → parent_side r c ≡ Some i → (leads_nearer r (dart_of r c i) ≡ true) × (i < sides_of r c)
unfolding parent_side
parent_nearer r c i e = go (least_below (sides_of r c) (λ k. is_last r (dart_of r c k))) refl
  where
    go : (o : Option ℕ) → least_below (sides_of r c) (λ k. is_last r (dart_of r c k)) ≡ o → (leads_nearer r (dart_of r c i) ≡ true) × (i < sides_of r c)
    go (Some k) is =
        let at : parent_side r c ≡ Some k = ap (λ o. option_or o (least_below (sides_of r c) (λ k. leads_nearer r (dart_of r c k)))) is in
        let same : k ≡ i = cc (at, e) in
        let h = least_holds (sides_of r c) (λ k. is_last r (dart_of r c k)) i (is ∙ ap Some same) in
        ((both_hold (leads_nearer r (dart_of r c i)) (not (leads_nearer r (left_of r (dart_of r c i)))) h.0).0, h.1)
    go None is =
        let at : parent_side r c ≡ least_below (sides_of r c) (λ k. leads_nearer r (dart_of r c k)) = ap (λ o. option_or o (least_below (sides_of r c) (λ k. leads_nearer r (dart_of r c k)))) is in
        least_holds (sides_of r c) (λ k. leads_nearer r (dart_of r c k)) i (sym at ∙ e)

module _ (r : RegionState) (table : IsTable r.table) where
  pub parent_joined : (d : ℕ × ℕ) → IsDart r.table d → is_parent r d ≡ true → (e : ℕ × ℕ) × (joined_to r.table d ≡ Some e)
  parent_joined d is_dart sure = go (parent_side r d.0) refl
    where
      over : (i : ℕ) → parent_side r d.0 ≡ Some i → i ≡ d.1 → (o : Option (ℕ × ℕ)) → joined_to r.table d ≡ o → (e : ℕ × ℕ) × (joined_to r.table d ≡ Some e)
      over i is same (Some e) at = (e, at)
      over i is same None at =
          let near = (parent_nearer r d.0 i is).0 in
          let own : dart_of r d.0 i ≡ d = ap (λ k. dart_of r d.0 k) same ∙ ap (λ k. (d.0, k)) (mod-eq_of_lt is_dart.below) in
          let fails : leads_nearer r d ≡ false = ap (holds (λ e. nat_eq (suc (distance r e.0)) (distance r d.0))) at in
          let near_too : leads_nearer r d ≡ true = subst (λ x. leads_nearer r x ≡ true) own near in
          absurd (cc (fails, near_too))

      go : (o : Option ℕ) → parent_side r d.0 ≡ o → (e : ℕ × ℕ) × (joined_to r.table d ≡ Some e)
      go None is = let fails : is_parent r d ≡ false = ap (holds (λ i. nat_eq i d.1)) is in absurd (cc (fails, sure))
      go (Some i) is =
          let at : nat_eq i d.1 ≡ true = sym (ap (holds (λ i. nat_eq i d.1)) is) ∙ sure in
          over i is (eqb-true i d.1 at) (joined_to r.table d) refl

  pub tree_joined : (d : ℕ × ℕ) → IsDart r.table d → in_tree r d ≡ true → (e : ℕ × ℕ) × (joined_to r.table d ≡ Some e)
  tree_joined d is_dart sure = go (one_holds (is_parent r d) (is_child r d) sure) (options (joined_to r.table d))
    where
      go : (is_parent r d ≡ true) ⊎ (is_child r d ≡ true) → (joined_to r.table d ≡ None) ⊎ ((e : ℕ × ℕ) × (joined_to r.table d ≡ Some e)) → (e : ℕ × ℕ) × (joined_to r.table d ≡ Some e)
      go (inl parent) _ = parent_joined d is_dart parent
      go (inr child) (inr w) = w
      go (inr child) (inl none) = let fails : is_child r d ≡ false = ap (holds (is_parent r)) none in absurd (cc (fails, child))

  pub tree_over : (d e : ℕ × ℕ) → IsDart r.table d → joined_to r.table d ≡ Some e → in_tree r d ≡ in_tree r e
  tree_over d e is_dart joined =
      let back = joined_back r table d e is_dart joined in
      let one : is_child r d ≡ is_parent r e = ap (holds (is_parent r)) joined in
      let two : is_child r e ≡ is_parent r d = ap (holds (is_parent r)) back in
      ap (λ b. is_parent r d || b) one ∙ (or_turned (is_parent r d) (is_parent r e) ∙ ap (λ b. is_parent r e || b) (sym two))

  -- a step of the contour, by cases
  step_over : (d e : ℕ × ℕ) → in_tree r (left_of r d) ≡ true → joined_to r.table (left_of r d) ≡ Some e → contour_step r d ≡ e
  step_over d e sure joined = ap (λ b. cond b (unwrap_or (joined_to r.table (left_of r d)) (left_of r d)) (left_of r d)) sure ∙ ap (λ o. unwrap_or o (left_of r d)) joined

  step_on : (d : ℕ × ℕ) → in_tree r (left_of r d) ≡ false → contour_step r d ≡ left_of r d
  step_on d fails = ap (λ b. cond b (unwrap_or (joined_to r.table (left_of r d)) (left_of r d)) (left_of r d)) fails

  back_over : (d e : ℕ × ℕ) → in_tree r d ≡ true → joined_to r.table d ≡ Some e → contour_back r d ≡ right_of r e
  back_over d e sure joined = ap (λ b. cond b (right_of r (unwrap_or (joined_to r.table d) d)) (right_of r d)) sure ∙ ap (λ o. right_of r (unwrap_or o d)) joined

  back_on : (d : ℕ × ℕ) → in_tree r d ≡ false → contour_back r d ≡ right_of r d
  back_on d fails = ap (λ b. cond b (right_of r (unwrap_or (joined_to r.table d) d)) (right_of r d)) fails

  pub step_dart : (d : ℕ × ℕ) → IsDart r.table d → IsDart r.table (contour_step r d)
  step_dart d is_dart = go (cases (in_tree r (left_of r d)))
    where
      go : (in_tree r (left_of r d) ≡ true) ⊎ (in_tree r (left_of r d) ≡ false) → IsDart r.table (contour_step r d)
      go (inl sure) =
          let over = tree_joined (left_of r d) (left_dart r table d is_dart) sure in
          subst (IsDart r.table) (sym (step_over d over.0 sure over.1)) (joined_dart r table (left_of r d) over.0 over.1)
      go (inr fails) = subst (IsDart r.table) (sym (step_on d fails)) (left_dart r table d is_dart)

  pub back_dart : (d : ℕ × ℕ) → IsDart r.table d → IsDart r.table (contour_back r d)
  back_dart d is_dart = go (cases (in_tree r d))
    where
      go : (in_tree r d ≡ true) ⊎ (in_tree r d ≡ false) → IsDart r.table (contour_back r d)
      go (inl sure) =
          let over = tree_joined d is_dart sure in
          subst (IsDart r.table) (sym (back_over d over.0 sure over.1)) (right_dart r table over.0 (joined_dart r table d over.0 over.1))
      go (inr fails) = subst (IsDart r.table) (sym (back_on d fails)) (right_dart r table d is_dart)

  pub back_step : (d : ℕ × ℕ) → IsDart r.table d → contour_back r (contour_step r d) ≡ d
  back_step d is_dart = go (cases (in_tree r (left_of r d)))
    where
      go : (in_tree r (left_of r d) ≡ true) ⊎ (in_tree r (left_of r d) ≡ false) → contour_back r (contour_step r d) ≡ d
      go (inl sure) =
          let left = left_dart r table d is_dart in
          let over = tree_joined (left_of r d) left sure in
          let in_too : in_tree r over.0 ≡ true = sym (tree_over (left_of r d) over.0 left over.1) ∙ sure in
          ap (contour_back r) (step_over d over.0 sure over.1) ∙ (back_over over.0 (left_of r d) in_too (joined_back r table (left_of r d) over.0 left over.1) ∙ right_left r table d is_dart)
      go (inr fails) = ap (contour_back r) (step_on d fails) ∙ (back_on (left_of r d) fails ∙ right_left r table d is_dart)

  pub step_back : (d : ℕ × ℕ) → IsDart r.table d → contour_step r (contour_back r d) ≡ d
  step_back d is_dart = go (cases (in_tree r d))
    where
      go : (in_tree r d ≡ true) ⊎ (in_tree r d ≡ false) → contour_step r (contour_back r d) ≡ d
      go (inl sure) =
          let over = tree_joined d is_dart sure in
          let e_dart = joined_dart r table d over.0 over.1 in
          let left : left_of r (right_of r over.0) ≡ over.0 = left_right r table over.0 e_dart in
          let in_too : in_tree r (left_of r (right_of r over.0)) ≡ true = ap (in_tree r) left ∙ (sym (tree_over d over.0 is_dart over.1) ∙ sure) in
          let back : joined_to r.table (left_of r (right_of r over.0)) ≡ Some d = ap (joined_to r.table) left ∙ joined_back r table d over.0 is_dart over.1 in
          ap (contour_step r) (back_over d over.0 sure over.1) ∙ step_over (right_of r over.0) d in_too back
      go (inr fails) =
          let left : left_of r (right_of r d) ≡ d = left_right r table d is_dart in
          ap (contour_step r) (back_on d fails) ∙ (step_on (right_of r d) (ap (in_tree r) left ∙ fails) ∙ left)

pub least_none : (p : ℕ → Bool) → least_below 0 p ≡ None
unfolding least_below
least_none p = refl

pub parent_last : (r : RegionState) (c i : ℕ) → least_below (sides_of r c) (λ k. is_last r (dart_of r c k)) ≡ Some i → parent_side r c ≡ Some i
unfolding parent_side
parent_last r c i e = ap (λ o. option_or o (least_below (sides_of r c) (λ k. leads_nearer r (dart_of r c k)))) e

pub parent_near : (r : RegionState) (c : ℕ) → least_below (sides_of r c) (λ k. is_last r (dart_of r c k)) ≡ None → parent_side r c ≡ least_below (sides_of r c) (λ k. leads_nearer r (dart_of r c k))
unfolding parent_side
parent_near r c e = ap (λ o. option_or o (least_below (sides_of r c) (λ k. leads_nearer r (dart_of r c k)))) e
