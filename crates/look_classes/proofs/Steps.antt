-- The contour: its steps are one to one, so it comes round; what it comes to, it comes to within as
-- many steps as there are darts.
use Rattle.std.proofs.Common.{◌≡◌, ℕ, zero, suc, ◌+◌, ◌-◌, ◌*◌, ◌<◌, ◌≤◌, ◌⊎◌, Bool, true, false, ◌&&◌, not, length, Option, Some, None, IsSome, is_some, refl, sym, ap, ◌∙◌, subst, inl, inr, arith}
use Rattle.std.proofs.lemmas.Bool.{cases_eq, cases_lt}
use Rattle.coincidence.specs.Darts.{pack}
use Rattle.coincidence.specs.Tables.{joined_to}
use Rattle.coincidence.specs.Joined.{IsTable}
use Rattle.region_grower.specs.Ways.{IsDart}
use Rattle.region_grower.specs.Regions.{RegionState}
use Rattle.tile_model.proofs.Pigeonhole.{pigeonhole}
use Rattle.look_classes.specs.Tree.{holds, same_dart, in_tree}
use Rattle.look_classes.specs.Places.{contour_step, contour, comes_to, is_key, IsKeyEdge}
use Rattle.look_classes.specs.Contours.{contour_back}
use Rattle.look_classes.proofs.Cases.{both_hold, hold_both, one_holds, hold_one, hold_first, test_some, some_test, same_dart_is, is_same_dart, least}
use Rattle.look_classes.proofs.Darts.{dart_number, one_number}
use Rattle.look_classes.proofs.Parents.{step_dart, back_step}

module _ (r : RegionState) where
  pub contour_first : (n : ℕ) (d : ℕ × ℕ) → contour (suc n) r d ≡ contour n r (contour_step r d)
  unfolding contour
  contour_first zero d = refl
  contour_first (suc n) d = ap (contour_step r) (contour_first n d)

  pub contour_next : (n : ℕ) (d : ℕ × ℕ) → contour (suc n) r d ≡ contour_step r (contour n r d)
  unfolding contour
  contour_next n d = refl

  pub contour_none : (d : ℕ × ℕ) → contour 0 r d ≡ d
  unfolding contour
  contour_none d = refl

  pub contour_sum : (m n k : ℕ) (d : ℕ × ℕ) → k ≡ m + n → contour k r d ≡ contour m r (contour n r d)
  contour_sum zero n k d e = let f : k ≡ n = omega (arith, e) in ap (λ x. contour x r d) f ∙ sym (contour_none (contour n r d))
  contour_sum (suc m) n zero d e = absurd (omega (arith, e))
  contour_sum (suc m) n (suc k) d e =
      contour_next k d ∙ (ap (contour_step r) (contour_sum m n k d (omega (arith, e))) ∙ sym (contour_next m (contour n r d)))

  -- what the contour comes to within so many steps
  pub record Comes (d e : ℕ × ℕ) (k : ℕ) : Type 0 where
    pub meets : contour (suc k) r d ≡ e
    pub before : (j : ℕ) → j < k → IsSome (joined_to r.table (contour (suc j) r d))

  pub comes_steps : (n : ℕ) (d e : ℕ × ℕ) → comes_to n r d e ≡ true → (k : ℕ) × (k < n) × Comes d e k
  unfolding comes_to
  comes_steps zero d e sure = absurd (cc)
  comes_steps (suc n) d e sure = go (λ h. comes_steps n (contour_step r d) e h) (one_holds (same_dart (contour_step r d) e) (is_some (joined_to r.table (contour_step r d)) && comes_to n r (contour_step r d) e) sure)
    where
      go : (comes_to n r (contour_step r d) e ≡ true → (k : ℕ) × (k < n) × Comes (contour_step r d) e k) → (same_dart (contour_step r d) e ≡ true) ⊎ ((is_some (joined_to r.table (contour_step r d)) && comes_to n r (contour_step r d) e) ≡ true) → (k : ℕ) × (k < suc n) × Comes d e k
      go more (inl same) = (0, omega arith, record { meets = contour_first 0 d ∙ (contour_none (contour_step r d) ∙ same_dart_is (contour_step r d) e same); before = λ j lt. absurd (omega (arith, lt)) })
      go more (inr on) =
          let h = both_hold (is_some (joined_to r.table (contour_step r d))) (comes_to n r (contour_step r d) e) on in
          let rest = more h.1 in
          let lt = rest.1 in
          (suc rest.0, omega (arith, lt), record { meets = contour_first (suc rest.0) d ∙ rest.2.meets; before = before rest.0 (test_some (joined_to r.table (contour_step r d)) h.0) rest.2.before })
        where
          before : (k : ℕ) → IsSome (joined_to r.table (contour_step r d)) → ((j : ℕ) → j < k → IsSome (joined_to r.table (contour (suc j) r (contour_step r d)))) → (j : ℕ) → j < suc k → IsSome (joined_to r.table (contour (suc j) r d))
          before k first rest zero lt = subst (λ x. IsSome (joined_to r.table x)) (sym (contour_first 0 d ∙ contour_none (contour_step r d))) first
          before k first rest (suc j) lt = subst (λ x. IsSome (joined_to r.table x)) (sym (contour_first (suc j) d)) (rest j (omega (arith, lt)))

  pub steps_come : (n k : ℕ) (d e : ℕ × ℕ) → k < n → Comes d e k → comes_to n r d e ≡ true
  unfolding comes_to
  steps_come zero k d e lt h = absurd (omega (arith, lt))
  steps_come (suc n) zero d e lt h = hold_first (same_dart (contour_step r d) e) (is_some (joined_to r.table (contour_step r d)) && comes_to n r (contour_step r d) e) (is_same_dart (contour_step r d) e (sym (contour_first 0 d ∙ contour_none (contour_step r d)) ∙ h.meets))
  steps_come (suc n) (suc k) d e lt h =
      let first : IsSome (joined_to r.table (contour_step r d)) = subst (λ x. IsSome (joined_to r.table x)) (contour_first 0 d ∙ contour_none (contour_step r d)) (h.before 0 (omega arith)) in
      let rest = steps_come n k (contour_step r d) e (omega (arith, lt)) (record {
        meets = sym (contour_first (suc k) d) ∙ h.meets;
        before = λ j less. subst (λ x. IsSome (joined_to r.table x)) (contour_first (suc j) d) (h.before (suc j) (omega (arith, less)));
      }) in
      hold_one (same_dart (contour_step r d) e) (is_some (joined_to r.table (contour_step r d)) && comes_to n r (contour_step r d) e) (hold_both (is_some (joined_to r.table (contour_step r d))) (comes_to n r (contour_step r d) e) (some_test (joined_to r.table (contour_step r d)) first) rest)

  module _ (table : IsTable r.table) where
    pub contour_dart : (n : ℕ) (d : ℕ × ℕ) → IsDart r.table d → IsDart r.table (contour n r d)
    contour_dart zero d is_dart = subst (IsDart r.table) (sym (contour_none d)) is_dart
    contour_dart (suc n) d is_dart = subst (IsDart r.table) (sym (contour_next n d)) (step_dart r table (contour n r d) (contour_dart n d is_dart))

    pub step_one : (d e : ℕ × ℕ) → IsDart r.table d → IsDart r.table e → contour_step r d ≡ contour_step r e → d ≡ e
    step_one d e a b same = sym (back_step r table d a) ∙ (ap (contour_back r) same ∙ back_step r table e b)

    pub contour_one : (n : ℕ) (d e : ℕ × ℕ) → IsDart r.table d → IsDart r.table e → contour n r d ≡ contour n r e → d ≡ e
    contour_one zero d e a b same = sym (contour_none d) ∙ (same ∙ contour_none e)
    contour_one (suc n) d e a b same =
        contour_one n d e a b (step_one (contour n r d) (contour n r e) (contour_dart n d a) (contour_dart n e b) (sym (contour_next n d) ∙ (same ∙ contour_next n e)))

    -- two places on one contour that are the same: it has come round
    pub contour_round : (i j : ℕ) (d : ℕ × ℕ) → IsDart r.table d → i ≤ j → contour i r d ≡ contour j r d → contour (j - i) r d ≡ d
    contour_round i j d is_dart le same =
        let sum : j ≡ i + (j - i) = omega (arith, le) in
        sym (contour_one i d (contour (j - i) r d) is_dart (contour_dart (j - i) d is_dart) (same ∙ contour_sum i (j - i) j d sum))

    abbrev darts : ℕ
    darts = 64 * length r.table.origins

    below_darts : (d : ℕ × ℕ) → IsDart r.table d → (i : ℕ) → pack (contour i r d) < darts
    below_darts d is_dart i = dart_number r table (contour i r d) (contour_dart i d is_dart)

    -- each dart is come back to
    pub period : (d : ℕ × ℕ) → IsDart r.table d → (p : ℕ) × (contour (suc p) r d ≡ d)
    period d is_dart = elim (least (λ j. same_dart (contour (suc j) r d) d) darts) [
      | inl w ↦ (w.0, same_dart_is (contour (suc w.0) r d) d w.1.holds)
      | inr none ↦
          let many = pigeonhole darts (suc darts) (λ i. pack (contour i r d)) (λ i lt. below_darts d is_dart i) (λ i j a b same. apart none i j a b (one_number r table (contour i r d) (contour j r d) (contour_dart i d is_dart) (contour_dart j d is_dart) same) (cases_eq i j) (cases_lt i j)) in
          absurd (omega (arith, many))
    ]
      where
        never : ((j : ℕ) → j < darts → same_dart (contour (suc j) r d) d ≡ false) → (i j : ℕ) → j < suc darts → i < j → contour i r d ≡ contour j r d → ⊥
        never none i j b lt same =
            let e : suc (j - i - 1) ≡ j - i = omega (arith, lt) in
            let home : contour (suc (j - i - 1)) r d ≡ d = ap (λ k. contour k r d) e ∙ contour_round i j d is_dart (omega (arith, lt)) same in
            let sure = is_same_dart (contour (suc (j - i - 1)) r d) d home in
            let fails = none (j - i - 1) (omega (arith, b, lt)) in
            absurd (cc (sure, fails))

        apart : ((j : ℕ) → j < darts → same_dart (contour (suc j) r d) d ≡ false) → (i j : ℕ) → i < suc darts → j < suc darts → contour i r d ≡ contour j r d → (i ≡ j) ⊎ (i ≡ j → ⊥) → (i < j) ⊎ (j ≤ i) → i ≡ j
        apart none i j a b same (inl e) _ = e
        apart none i j a b same (inr _) (inl lt) = absurd (never none i j b lt same)
        apart none i j a b same (inr other) (inr le) = absurd (never none j i a (omega (arith, le, other)) (sym same))

    -- what is come to at all is come to within so many steps
    pub comes_soon : (d e : ℕ × ℕ) (k : ℕ) → IsDart r.table d → Comes d e k → comes_to darts r d e ≡ true
    comes_soon d e k is_dart h = elim (least (λ j. same_dart (contour (suc j) r d) e) (suc k)) [
      | inl w ↦
          let j = w.0 in
          let first = w.1 in
          let at : contour (suc j) r d ≡ e = same_dart_is (contour (suc j) r d) e first.holds in
          let below = first.below in
          let many = pigeonhole darts (suc j) (λ i. pack (contour (suc i) r d)) (λ i lt. below_darts d is_dart (suc i)) (λ a b la lb same. apart j first.before at a b la lb (one_number r table (contour (suc a) r d) (contour (suc b) r d) (contour_dart (suc a) d is_dart) (contour_dart (suc b) d is_dart) same) (cases_eq a b) (cases_lt a b)) in
          steps_come darts j d e (omega (arith, many)) (record { meets = at; before = λ i lt. h.before i (omega (arith, lt, below)) })
      | inr none ↦ let fails = none k (omega arith) in let sure = is_same_dart (contour (suc k) r d) e h.meets in absurd (cc (fails, sure))
    ]
      where
        never : (j : ℕ) → ((i : ℕ) → i < j → same_dart (contour (suc i) r d) e ≡ false) → contour (suc j) r d ≡ e → (a b : ℕ) → b < suc j → a < b → contour (suc a) r d ≡ contour (suc b) r d → ⊥
        never j before at a b lb lt same =
            let n = j - b in
            let one : suc (n + a) ≡ n + suc a = omega arith in
            let two : suc j ≡ n + suc b = omega (arith, lb) in
            let there : contour (suc (n + a)) r d ≡ e = contour_sum n (suc a) (suc (n + a)) d one ∙ (ap (contour n r) same ∙ (sym (contour_sum n (suc b) (suc j) d two) ∙ at)) in
            let sure = is_same_dart (contour (suc (n + a)) r d) e there in
            let fails = before (n + a) (omega (arith, lt, lb)) in
            absurd (cc (sure, fails))

        apart : (j : ℕ) → ((i : ℕ) → i < j → same_dart (contour (suc i) r d) e ≡ false) → contour (suc j) r d ≡ e → (a b : ℕ) → a < suc j → b < suc j → contour (suc a) r d ≡ contour (suc b) r d → (a ≡ b) ⊎ (a ≡ b → ⊥) → (a < b) ⊎ (b ≤ a) → a ≡ b
        apart j before at a b la lb same (inl x) _ = x
        apart j before at a b la lb same (inr _) (inl lt) = absurd (never j before at a b lb lt same)
        apart j before at a b la lb same (inr other) (inr le) = absurd (never j before at b a la (omega (arith, le, other)) (sym same))

    -- a dart at place 0 is one whose side is a key edge
    key_split : (d : ℕ × ℕ) → is_key r d ≡ true → (in_tree r d ≡ false) × (holds (comes_to darts r d) (joined_to r.table d) ≡ true)
    unfolding is_key
    key_split d sure =
        let h = both_hold (not (in_tree r d)) (holds (comes_to darts r d) (joined_to r.table d)) sure in
        (turned (in_tree r d) h.0, h.1)
      where
        turned : (b : Bool) → not b ≡ true → b ≡ false
        turned true e = absurd (cc)
        turned false e = refl

    pub key_from : (d : ℕ × ℕ) → in_tree r d ≡ false → holds (comes_to darts r d) (joined_to r.table d) ≡ true → is_key r d ≡ true
    unfolding is_key
    key_from d out sure = hold_both (not (in_tree r d)) (holds (comes_to darts r d) (joined_to r.table d)) (ap not out) sure

    pub key_edge : (d : ℕ × ℕ) → is_key r d ≡ true → IsKeyEdge r d
    key_edge d sure = go (joined_to r.table d) refl
      where
        go : (o : Option (ℕ × ℕ)) → joined_to r.table d ≡ o → IsKeyEdge r d
        go None is = let h = (key_split d sure).1 in let fails : holds (comes_to darts r d) (joined_to r.table d) ≡ false = ap (holds (comes_to darts r d)) is in absurd (cc (h, fails))
        go (Some e) is =
            let h = key_split d sure in
            let comes : comes_to darts r d e ≡ true = sym (ap (holds (comes_to darts r d)) is) ∙ h.1 in
            let w = comes_steps darts d e comes in
            record { over = e; joined = is; outside = h.0; steps = w.0; meets = w.2.meets; before = w.2.before }

    pub edge_key : (d : ℕ × ℕ) → IsDart r.table d → IsKeyEdge r d → is_key r d ≡ true
    edge_key d is_dart h =
        key_from d h.outside (ap (holds (comes_to darts r d)) h.joined ∙ comes_soon d h.over h.steps is_dart (record { meets = h.meets; before = h.before }))

-- a dart at place 0, by cases
pub key_is : (r : RegionState) (d e : ℕ × ℕ) → joined_to r.table d ≡ Some e → in_tree r d ≡ false → is_key r d ≡ comes_to (64 * length r.table.origins) r d e
unfolding is_key
key_is r d e joined out = ap (λ b. not b && holds (comes_to (64 * length r.table.origins) r d) (joined_to r.table d)) out ∙ ap (holds (comes_to (64 * length r.table.origins) r d)) joined

pub key_in : (r : RegionState) (d : ℕ × ℕ) → in_tree r d ≡ true → is_key r d ≡ false
unfolding is_key
key_in r d within = ap (λ b. not b && holds (comes_to (64 * length r.table.origins) r d) (joined_to r.table d)) within

pub key_none : (r : RegionState) (d : ℕ × ℕ) → joined_to r.table d ≡ None → is_key r d ≡ false
unfolding is_key
key_none r d none = ap (λ o. not (in_tree r d) && holds (comes_to (64 * length r.table.origins) r d) o) none ∙ off (not (in_tree r d))
  where
    off : (b : Bool) → (b && false) ≡ false
    off true = refl
    off false = refl
