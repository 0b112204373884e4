-- Darts that are met one after the other, backwards along the contour.
use Rattle.std.proofs.Common.{◌≡◌, ℕ, zero, suc, ◌+◌, ◌-◌, ◌*◌, ◌<◌, ◌≤◌, ◌⊎◌, true, ◌==◌, ◌||◌, cond, nat_lt, List, [], ◌∷◌, length, get_or, Some, None, IsSome, is_some, refl, sym, ap, ◌∙◌, subst, inl, inr, arith, eqb-true}
use Rattle.std.proofs.Math.ListN.{set}
use Rattle.std.proofs.lemmas.Bool.{cases_eq, cases_lt, eq-eqb, lt-ltb, ltb-true}
use Rattle.std.proofs.lemmas.List.{get_or-set_same, get_or-set_other, length-set}
use Rattle.coincidence.specs.Darts.{pack, unpack}
use Rattle.coincidence.specs.Tables.{joined_to}
use Rattle.coincidence.specs.Joined.{IsTable}
use Rattle.region_grower.specs.Ways.{IsDart}
use Rattle.region_grower.specs.Regions.{RegionState}
use Rattle.look_classes.specs.declared.contour.Met.{Met}
use Rattle.look_classes.specs.Places.{contour_step, contour, comes_to}
use Rattle.look_classes.specs.Contours.{contour_back, not_met, met_at, steps_at, end_at, LeadsTo, AreMet, AllOpenMet, AllMet, StayMet, met_before, comes_over}
use Rattle.look_classes.proofs.Cases.{options, there_some, some_there, both_hold, hold_both, one_holds, hold_one, hold_first, same_tests, some_test, test_some}
use Rattle.look_classes.proofs.Darts.{dart_number, one_number, unpack_pack, pack_unpack, dart_side, joined_dart, joined_back}
use Rattle.look_classes.proofs.Parents.{back_dart, back_step, step_back}
use Rattle.look_classes.proofs.Steps.{contour_first, contour_next, contour_none, contour_sum, Comes, comes_steps, comes_soon, contour_dart, contour_one, period}

-- how many were not met
abbrev pub if_none : ℕ → ℕ
if_none zero = 1
if_none (suc n) = 0

abbrev pub unmet : List Met → ℕ
unmet [] = 0
unmet (x ∷ xs) = if_none x.steps + unmet xs

pub unmet_few : (met : List Met) → unmet met ≤ length met
unmet_few [] = omega arith
unmet_few (x ∷ xs) = let rest = unmet_few xs in let one = few x.steps in omega (arith, rest, one)
  where
    few : (n : ℕ) → if_none n ≤ 1
    few zero = omega arith
    few (suc n) = omega arith

pub unmet_less : (met : List Met) (i : ℕ) (x : Met) → i < length met → (get_or met i not_met).steps ≡ 0 → 0 < x.steps → unmet (set met i x) + 1 ≡ unmet met
unmet_less [] i x lt none some = absurd (omega (arith, lt))
unmet_less (y ∷ ys) zero x lt none some = let a : if_none y.steps ≡ 1 = ap if_none none in let b = later x.steps some in omega (arith, a, b)
  where
    later : (n : ℕ) → 0 < n → if_none n ≡ 0
    later zero less = absurd (omega (arith, less))
    later (suc n) less = refl
unmet_less (y ∷ ys) (suc i) x lt none some = let rest = unmet_less ys i x (omega (arith, lt)) none some in omega (arith, rest)

module _ (r : RegionState) where
  -- how it stands with a dart that is met in a walk from a start
  pub record IsGood (start : ℕ × ℕ) (old : List Met) (u : ℕ × ℕ) : Type 0 where
    pub opened : joined_to r.table start ≡ None → joined_to r.table u ≡ None
    pub others : AllOpenMet r old → u ≡ start

  pub record Walking (start : ℕ × ℕ) (old met : List Met) (at : ℕ × ℕ) (last : Met) : Type 0 where
    pub long : length met ≡ length old
    pub dart : IsDart r.table at
    pub few : last.steps + unmet met ≤ length met
    pub leads : (d : ℕ × ℕ) (k : ℕ) → IsDart r.table d → steps_at met d ≡ suc k → LeadsTo r d (end_at met d) k
    pub last_leads : IsSome (joined_to r.table at) → LeadsTo r at (unpack last.end) last.steps
    pub last_good : IsGood start old (unpack last.end)
    pub kept : (d : ℕ × ℕ) → 0 < steps_at old d → met_at met d ≡ met_at old d
    pub good : (d : ℕ × ℕ) → IsDart r.table d → 0 < steps_at met d → steps_at old d ≡ 0 → IsGood start old (end_at met d)
    pub back : (d : ℕ × ℕ) → IsDart r.table d → 0 < steps_at met d → steps_at old d ≡ 0 → (0 < steps_at met (contour_back r d)) ⊎ (contour_back r d ≡ at)
    pub begun : (0 < steps_at met start) ⊎ (at ≡ start)

module _ (r : RegionState) (table : IsTable r.table) where
  pub walk_begins : (start : ℕ × ℕ) (old : List Met) (last : Met) → IsDart r.table start → AreMet r old → last.end ≡ pack start → last.steps ≡ 0 → Walking r start old old start last
  walk_begins start old last is_dart met is none =
      let u : unpack last.end ≡ start = ap unpack is ∙ unpack_pack start (dart_side r table start is_dart) in
      record {
        long = refl;
        dart = is_dart;
        few = let all = unmet_few old in omega (arith, all, none);
        leads = met.leads;
        last_leads = λ _. subst (λ n. LeadsTo r start (unpack last.end) n) (sym none) (subst (λ x. LeadsTo r start x 0) (sym u) (record { dart = is_dart; comes = contour_none r start; joined = λ j lt. absurd (omega (arith, lt)) }));
        last_good = record { opened = λ o. ap (joined_to r.table) u ∙ o; others = λ _. u };
        kept = λ d _. refl;
        good = λ d _ some fresh. absurd (omega (arith, some, fresh));
        back = λ d _ some fresh. absurd (omega (arith, some, fresh));
        begun = inr refl;
      }

  module _ (start : ℕ × ℕ) (old met : List Met) (at : ℕ × ℕ) (last : Met) (h : Walking r start old met at last) (all : length old ≡ 64 * length r.table.origins) (new : steps_at met at ≡ 0) where
    here : pack at < length met
    here = let lt = dart_number r table at h.dart in omega (arith, lt, h.long, all)

    pub new_steps : last.steps < 64000000
    new_steps = let less = unmet_less met (pack at) (record { end = 0; steps = 1 }) here new (omega arith) in let few = table.few in omega (arith, less, h.few, h.long, all, few)

    old_new : steps_at old at ≡ 0
    old_new = go (cases_eq (steps_at old at) 0)
      where
        go : (steps_at old at ≡ 0) ⊎ (steps_at old at ≡ 0 → ⊥) → steps_at old at ≡ 0
        go (inl e) = e
        go (inr other) = let same = ap (λ m. m.steps) (h.kept at (omega (arith, other))) in omega (arith, same, new)

    module _ (x : Met) (is : x ≡ met_before r at last) where
      abbrev next : List Met
      next = set met (pack at) x

      met_here : met_at next at ≡ x
      met_here = get_or-set_same met (pack at) x not_met here

      met_other : (d : ℕ × ℕ) → (pack d ≡ pack at → ⊥) → met_at next d ≡ met_at met d
      met_other d other = get_or-set_other met (pack at) (pack d) x not_met other

      x_joined : IsSome (joined_to r.table at) → (x.end ≡ last.end) × (x.steps ≡ last.steps + 1)
      x_joined some =
          let e : x ≡ record { end = last.end; steps = last.steps + 1 } = is ∙ ap (λ b. cond b (record { end = last.end; steps = last.steps + 1 }) (record { end = pack at; steps = 1 })) (some_test (joined_to r.table at) some) in
          (ap (λ m. m.end) e, ap (λ m. m.steps) e)

      x_open : joined_to r.table at ≡ None → (x.end ≡ pack at) × (x.steps ≡ 1)
      x_open none =
          let e : x ≡ record { end = pack at; steps = 1 } = is ∙ ap (λ o. cond (is_some o) (record { end = last.end; steps = last.steps + 1 }) (record { end = pack at; steps = 1 })) none in
          (ap (λ m. m.end) e, ap (λ m. m.steps) e)

      x_some : 0 < x.steps
      x_some = go (options (joined_to r.table at))
        where
          go : (joined_to r.table at ≡ None) ⊎ ((e : ℕ × ℕ) × (joined_to r.table at ≡ Some e)) → 0 < x.steps
          go (inl none) = let e = (x_open none).1 in omega (arith, e)
          go (inr w) = let e = (x_joined (there_some (joined_to r.table at) w.0 w.1)).1 in omega (arith, e)

      x_few : x.steps ≤ last.steps + 1
      x_few = go (options (joined_to r.table at))
        where
          go : (joined_to r.table at ≡ None) ⊎ ((e : ℕ × ℕ) × (joined_to r.table at ≡ Some e)) → x.steps ≤ last.steps + 1
          go (inl none) = let e = (x_open none).1 in omega (arith, e)
          go (inr w) = let e = (x_joined (there_some (joined_to r.table at) w.0 w.1)).1 in omega (arith, e)

      x_leads : (k : ℕ) → x.steps ≡ suc k → LeadsTo r at (unpack x.end) k
      x_leads k steps = go (options (joined_to r.table at))
        where
          go : (joined_to r.table at ≡ None) ⊎ ((e : ℕ × ℕ) × (joined_to r.table at ≡ Some e)) → LeadsTo r at (unpack x.end) k
          go (inl none) =
              let e = x_open none in
              let u : at ≡ unpack x.end = sym (ap unpack e.0 ∙ unpack_pack at (dart_side r table at h.dart)) in
              let n : 0 ≡ k = omega (arith, e.1, steps) in
              subst (LeadsTo r at (unpack x.end)) n (subst (λ y. LeadsTo r at y 0) u (record { dart = h.dart; comes = contour_none r at; joined = λ j lt. absurd (omega (arith, lt)) }))
          go (inr w) =
              let some = there_some (joined_to r.table at) w.0 w.1 in
              let e = x_joined some in
              let n : last.steps ≡ k = omega (arith, e.1, steps) in
              subst (LeadsTo r at (unpack x.end)) n (subst (λ y. LeadsTo r at y last.steps) (sym (ap unpack e.0)) (h.last_leads some))

      x_good : IsGood r start old (unpack x.end)
      x_good = go (options (joined_to r.table at))
        where
          go : (joined_to r.table at ≡ None) ⊎ ((e : ℕ × ℕ) × (joined_to r.table at ≡ Some e)) → IsGood r start old (unpack x.end)
          go (inr w) = subst (IsGood r start old) (sym (ap unpack (x_joined (there_some (joined_to r.table at) w.0 w.1)).0)) h.last_good
          go (inl none) =
              let u : at ≡ unpack x.end = sym (ap unpack (x_open none).0 ∙ unpack_pack at (dart_side r table at h.dart)) in
              subst (IsGood r start old) u (record { opened = λ _. none; others = λ all_met. let some = all_met at h.dart none in absurd (omega (arith, some, old_new)) })

      -- one more dart was met
      pub walk_on : Walking r start old next (contour_back r at) x
      walk_on = record {
        long = length-set met (pack at) x ∙ h.long;
        dart = back_dart r table at h.dart;
        few = let less = unmet_less met (pack at) x here new x_some in let same = length-set met (pack at) x in omega (arith, less, x_few, h.few, same);
        leads = λ d k is_dart steps. leads d k is_dart steps (cases_eq (pack d) (pack at));
        last_leads = λ some. last_leads some;
        last_good = x_good;
        kept = λ d some. kept d some (cases_eq (pack d) (pack at));
        good = λ d is_dart some fresh. good d is_dart some fresh (cases_eq (pack d) (pack at));
        back = λ d is_dart some fresh. back d is_dart some fresh (cases_eq (pack d) (pack at));
        begun = begun h.begun (cases_eq (pack start) (pack at));
      }
        where
          leads : (d : ℕ × ℕ) (k : ℕ) → IsDart r.table d → steps_at next d ≡ suc k → (pack d ≡ pack at) ⊎ (pack d ≡ pack at → ⊥) → LeadsTo r d (end_at next d) k
          leads d k is_dart steps (inr other) =
              let same = met_other d other in
              subst (λ m. LeadsTo r d (unpack m.end) k) (sym same) (h.leads d k is_dart (sym (ap (λ m. m.steps) same) ∙ steps))
          leads d k is_dart steps (inl e) =
              let own = one_number r table d at is_dart h.dart e in
              let mine : met_at next d ≡ x = ap (met_at next) own ∙ met_here in
              let steps_is : x.steps ≡ suc k = sym (ap (λ m. m.steps) mine) ∙ steps in
              subst (λ m. LeadsTo r d (unpack m.end) k) (sym mine) (subst (λ y. LeadsTo r y (unpack x.end) k) (sym own) (x_leads k steps_is))

          last_leads : IsSome (joined_to r.table (contour_back r at)) → LeadsTo r (contour_back r at) (unpack x.end) x.steps
          last_leads some =
              let k = x.steps - 1 in
              let steps : x.steps ≡ suc (x.steps - 1) = omega (arith, x_some) in
              let rest = x_leads (x.steps - 1) steps in
              let one = step_back r table at h.dart in
              subst (LeadsTo r (contour_back r at) (unpack x.end)) (sym steps) (record {
                dart = rest.dart;
                comes = contour_first r (x.steps - 1) (contour_back r at) ∙ (ap (contour (x.steps - 1) r) one ∙ rest.comes);
                joined = λ j lt. joined some rest.joined one j lt;
              })
            where
              joined : IsSome (joined_to r.table (contour_back r at)) → ((j : ℕ) → j < x.steps - 1 → IsSome (joined_to r.table (contour j r at))) → contour_step r (contour_back r at) ≡ at → (j : ℕ) → j < suc (x.steps - 1) → IsSome (joined_to r.table (contour j r (contour_back r at)))
              joined some before one zero lt = subst (λ y. IsSome (joined_to r.table y)) (sym (contour_none r (contour_back r at))) some
              joined some before one (suc j) lt = subst (λ y. IsSome (joined_to r.table y)) (sym (contour_first r j (contour_back r at) ∙ ap (contour j r) one)) (before j (omega (arith, lt)))

          kept : (d : ℕ × ℕ) → 0 < steps_at old d → (pack d ≡ pack at) ⊎ (pack d ≡ pack at → ⊥) → met_at next d ≡ met_at old d
          kept d some (inr other) = met_other d other ∙ h.kept d some
          kept d some (inl e) = let same : steps_at old d ≡ steps_at old at = ap (λ n. (get_or old n not_met).steps) e in absurd (omega (arith, some, same, old_new))

          good : (d : ℕ × ℕ) → IsDart r.table d → 0 < steps_at next d → steps_at old d ≡ 0 → (pack d ≡ pack at) ⊎ (pack d ≡ pack at → ⊥) → IsGood r start old (end_at next d)
          good d is_dart some fresh (inl e) = subst (λ m. IsGood r start old (unpack m.end)) (sym (ap (λ n. get_or next n not_met) e ∙ met_here)) x_good
          good d is_dart some fresh (inr other) = let same = met_other d other in subst (λ m. IsGood r start old (unpack m.end)) (sym same) (h.good d is_dart (subst (λ m. 0 < m.steps) same some) fresh)

          met_more : (d : ℕ × ℕ) → 0 < steps_at met d → 0 < steps_at next d
          met_more d some = more (cases_eq (pack d) (pack at))
            where
              more : (pack d ≡ pack at) ⊎ (pack d ≡ pack at → ⊥) → 0 < steps_at next d
              more (inr other) = subst (λ m. 0 < m.steps) (sym (met_other d other)) some
              more (inl e) = subst (λ m. 0 < m.steps) (sym (ap (λ n. get_or next n not_met) e ∙ met_here)) x_some

          met_now : 0 < steps_at next at
          met_now = subst (λ m. 0 < m.steps) (sym met_here) x_some

          back : (d : ℕ × ℕ) → IsDart r.table d → 0 < steps_at next d → steps_at old d ≡ 0 → (pack d ≡ pack at) ⊎ (pack d ≡ pack at → ⊥) → (0 < steps_at next (contour_back r d)) ⊎ (contour_back r d ≡ contour_back r at)
          back d is_dart some fresh (inl e) = inr (ap (contour_back r) (one_number r table d at is_dart h.dart e))
          back d is_dart some fresh (inr other) = on (h.back d is_dart (subst (λ m. 0 < m.steps) (met_other d other) some) fresh)
            where
              on : (0 < steps_at met (contour_back r d)) ⊎ (contour_back r d ≡ at) → (0 < steps_at next (contour_back r d)) ⊎ (contour_back r d ≡ contour_back r at)
              on (inl before) = inl (met_more (contour_back r d) before)
              on (inr e) = inl (subst (λ y. 0 < steps_at next y) (sym e) met_now)

          begun : (0 < steps_at met start) ⊎ (at ≡ start) → (pack start ≡ pack at) ⊎ (pack start ≡ pack at → ⊥) → (0 < steps_at next start) ⊎ (contour_back r at ≡ start)
          begun (inl some) _ = inl (met_more start some)
          begun (inr e) _ = inl (subst (λ y. 0 < steps_at next y) e met_now)

      pub walk_less : unmet next < unmet met
      walk_less = let less = unmet_less met (pack at) x here new x_some in omega (arith, less)

-- all darts before one that was met were met, and so were those after it
module _ (r : RegionState) (table : IsTable r.table) (met : List Met) (h : AreMet r met) where
  met_ahead : (n : ℕ) (d : ℕ × ℕ) → IsDart r.table d → 0 < steps_at met (contour n r d) → 0 < steps_at met d
  met_ahead zero d is_dart some = subst (λ y. 0 < steps_at met y) (contour_none r d) some
  met_ahead (suc n) d is_dart some =
      let at = contour_dart r table n d is_dart in
      let next : contour_back r (contour (suc n) r d) ≡ contour n r d = ap (contour_back r) (contour_next r n d) ∙ back_step r table (contour n r d) at in
      met_ahead n d is_dart (subst (λ y. 0 < steps_at met y) next (h.back (contour (suc n) r d) (contour_dart r table (suc n) d is_dart) some))

  pub met_on : (d : ℕ × ℕ) → IsDart r.table d → 0 < steps_at met (contour_back r d) → 0 < steps_at met d
  met_on d is_dart some =
      let b = contour_back r d in
      let w = period r table (contour_back r d) (back_dart r table d is_dart) in
      let home : contour w.0 r d ≡ contour_back r d = ap (contour w.0 r) (sym (step_back r table d is_dart)) ∙ (sym (contour_first r w.0 (contour_back r d)) ∙ w.1) in
      met_ahead w.0 d is_dart (subst (λ y. 0 < steps_at met y) (sym home) some)

-- the first dart that is not joined is one
pub one_end : (r : RegionState) (d u v : ℕ × ℕ) (k m : ℕ) → LeadsTo r d u k → LeadsTo r d v m → joined_to r.table u ≡ None → joined_to r.table v ≡ None → u ≡ v
one_end r d u v k m a b open_u open_v = go (cases_lt k m) (cases_eq k m)
  where
    never : (x : ℕ × ℕ) → IsSome (joined_to r.table x) → joined_to r.table x ≡ None → ⊥
    never x some none = let w = some_there (joined_to r.table x) some in absurd (cc (w.1, none))

    go : (k < m) ⊎ (m ≤ k) → (k ≡ m) ⊎ (k ≡ m → ⊥) → u ≡ v
    go _ (inl e) = sym a.comes ∙ (ap (λ n. contour n r d) e ∙ b.comes)
    go (inl lt) _ = absurd (never u (subst (λ x. IsSome (joined_to r.table x)) a.comes (b.joined k lt)) open_u)
    go (inr le) (inr other) = absurd (never v (subst (λ x. IsSome (joined_to r.table x)) b.comes (a.joined m (omega (arith, le, other)))) open_v)

-- from a dart across a joined one before it
pub leads_on : (r : RegionState) (b d u : ℕ × ℕ) (k : ℕ) → LeadsTo r b u k → contour_step r b ≡ d → IsSome (joined_to r.table b) → joined_to r.table u ≡ None → (m : ℕ) × LeadsTo r d u m
leads_on r b d u zero h e some none =
    let w = some_there (joined_to r.table b) some in
    let same : b ≡ u = sym (contour_none r b) ∙ h.comes in
    let joined : joined_to r.table u ≡ Some w.0 = ap (joined_to r.table) (sym same) ∙ w.1 in
    absurd (cc (joined, none))
leads_on r b d u (suc k) h e some none = (
  k,
  record {
    dart = h.dart;
    comes = ap (contour k r) (sym e) ∙ (sym (contour_first r k b) ∙ h.comes);
    joined = λ j lt. subst (λ x. IsSome (joined_to r.table x)) (contour_first r j b ∙ ap (contour j r) e) (h.joined (suc j) (omega (arith, lt)));
  },
)

pub some_more : (n : ℕ) → 0 < n → (k : ℕ) × (n ≡ suc k)
some_more n some = (n - 1, omega (arith, some))

-- a walk has ended
module _ (r : RegionState) (table : IsTable r.table) (start : ℕ × ℕ) (old met : List Met) (at : ℕ × ℕ) (last : Met) (before : AreMet r old) (h : Walking r start old met at last) (is_start : (joined_to r.table start ≡ None) ⊎ AllOpenMet r old) (done : 0 < steps_at met at) where
  still : (d : ℕ × ℕ) → 0 < steps_at old d → 0 < steps_at met d
  still d some = subst (λ m. 0 < m.steps) (sym (h.kept d some)) some

  pub walked_stay : StayMet old met
  walked_stay d some = still d some

  pub walked_start : 0 < steps_at met start
  walked_start = go h.begun
    where
      go : (0 < steps_at met start) ⊎ (at ≡ start) → 0 < steps_at met start
      go (inl some) = some
      go (inr e) = subst (λ y. 0 < steps_at met y) e done

  back : (d : ℕ × ℕ) → IsDart r.table d → 0 < steps_at met d → 0 < steps_at met (contour_back r d)
  back d is_dart some = go (cases_eq (steps_at old d) 0)
    where
      on : (0 < steps_at met (contour_back r d)) ⊎ (contour_back r d ≡ at) → 0 < steps_at met (contour_back r d)
      on (inl more) = more
      on (inr e) = subst (λ y. 0 < steps_at met y) (sym e) done

      go : (steps_at old d ≡ 0) ⊎ (steps_at old d ≡ 0 → ⊥) → 0 < steps_at met (contour_back r d)
      go (inl fresh) = on (h.back d is_dart some fresh)
      go (inr other) = still (contour_back r d) (before.back d is_dart (omega (arith, other)))

  ends : (d : ℕ × ℕ) → IsDart r.table d → 0 < steps_at met d → IsSome (joined_to r.table (contour_back r d)) → end_at met (contour_back r d) ≡ end_at met d
  ends d is_dart some joined = go (cases_eq (steps_at old d) 0) (cases_eq (steps_at old (contour_back r d)) 0)
    where
      new_end : (x : ℕ × ℕ) → IsDart r.table x → 0 < steps_at met x → steps_at old x ≡ 0 → IsGood r start old (end_at met x)
      new_end x x_dart more fresh = h.good x x_dart more fresh

      fresh_ends : IsGood r start old (end_at met d) → IsGood r start old (end_at met (contour_back r d)) → (joined_to r.table start ≡ None) ⊎ AllOpenMet r old → end_at met (contour_back r d) ≡ end_at met d
      fresh_ends a b (inr all) = b.others all ∙ sym (a.others all)
      fresh_ends a b (inl none) =
          let b_dart = back_dart r table d is_dart in
          let n = some_more (steps_at met d) some in
          let m = some_more (steps_at met (contour_back r d)) (back d is_dart some) in
          let mine = h.leads d n.0 is_dart n.1 in
          let its = h.leads (contour_back r d) m.0 b_dart m.1 in
          let on = leads_on r (contour_back r d) d (end_at met (contour_back r d)) m.0 its (step_back r table d is_dart) joined (b.opened none) in
          one_end r d (end_at met (contour_back r d)) (end_at met d) on.0 n.0 on.1 mine (b.opened none) (a.opened none)

      go : (steps_at old d ≡ 0) ⊎ (steps_at old d ≡ 0 → ⊥) → (steps_at old (contour_back r d) ≡ 0) ⊎ (steps_at old (contour_back r d) ≡ 0 → ⊥) → end_at met (contour_back r d) ≡ end_at met d
      go (inr other) _ =
          let mine : 0 < steps_at old d = omega (arith, other) in
          let its = before.back d is_dart mine in
          ap (λ m. unpack m.end) (h.kept (contour_back r d) its) ∙ (before.ends d is_dart mine joined ∙ sym (ap (λ m. unpack m.end) (h.kept d mine)))
      go (inl fresh) (inr other) = let mine = met_on r table old before d is_dart (omega (arith, other)) in absurd (omega (arith, mine, fresh))
      go (inl fresh) (inl back_fresh) = fresh_ends (new_end d is_dart some fresh) (new_end (contour_back r d) (back_dart r table d is_dart) (back d is_dart some) back_fresh) is_start

  pub walked : AreMet r met
  walked = record { long = h.long ∙ before.long; leads = h.leads; back = back; ends = ends }

-- nothing was met yet
pub none_met : (r : RegionState) (met : List Met) → length met ≡ 64 * length r.table.origins → ((d : ℕ × ℕ) → steps_at met d ≡ 0) → AreMet r met
none_met r met long none = record {
  long = long;
  leads = λ d k _ steps. absurd (omega (arith, steps, none d));
  back = λ d _ some. absurd (omega (arith, some, none d));
  ends = λ d _ some _. absurd (omega (arith, some, none d));
}

-- Whether the contour of a dart comes to the one joined to it, by what is known of both.
module _ (r : RegionState) (table : IsTable r.table) (met : List Met) (h : AreMet r met) (all : AllMet r met) where
  abbrev count : ℕ × ℕ → ℕ
  count d = steps_at met d - 1

  counts : (d : ℕ × ℕ) → IsDart r.table d → steps_at met d ≡ suc (count d)
  counts d is_dart = let some = all d is_dart in omega (arith, some)

  leads : (d : ℕ × ℕ) → IsDart r.table d → LeadsTo r d (end_at met d) (count d)
  leads d is_dart = h.leads d (count d) is_dart (counts d is_dart)

  not_both : (x : ℕ × ℕ) → IsSome (joined_to r.table x) → joined_to r.table x ≡ None → ⊥
  not_both x some none = let w = some_there (joined_to r.table x) some in absurd (cc (w.1, none))

  -- along joined darts the end stays
  same_ends : (n : ℕ) (d : ℕ × ℕ) → IsDart r.table d → ((i : ℕ) → i < n → IsSome (joined_to r.table (contour i r d))) → end_at met (contour n r d) ≡ end_at met d
  same_ends zero d is_dart joined = ap (end_at met) (contour_none r d)
  same_ends (suc n) d is_dart joined =
      let at = contour_dart r table n d is_dart in
      let next = contour_dart r table (suc n) d is_dart in
      let one : contour_back r (contour (suc n) r d) ≡ contour n r d = ap (contour_back r) (contour_next r n d) ∙ back_step r table (contour n r d) at in
      let some : IsSome (joined_to r.table (contour_back r (contour (suc n) r d))) = subst (λ x. IsSome (joined_to r.table x)) (sym one) (joined n (omega arith)) in
      sym (h.ends (contour (suc n) r d) next (all (contour (suc n) r d) next) some) ∙ (ap (end_at met) one ∙ same_ends n d is_dart (λ i lt. joined i (omega (arith, lt))))

  -- a contour with a joined end is closed
  never_open : (d : ℕ × ℕ) → IsDart r.table d → IsSome (joined_to r.table d) → IsSome (joined_to r.table (end_at met d)) → (n : ℕ) → (i : ℕ) → i < suc n → IsSome (joined_to r.table (contour i r d))
  never_open d is_dart some end_some zero i lt = let e : 0 ≡ i = omega (arith, lt) in subst (λ k. IsSome (joined_to r.table (contour k r d))) e (subst (λ x. IsSome (joined_to r.table x)) (sym (contour_none r d)) some)
  never_open d is_dart some end_some (suc n) i lt = go (λ j less. never_open d is_dart some end_some n j less) (cases_eq i (suc n))
    where
      go : ((j : ℕ) → j < suc n → IsSome (joined_to r.table (contour j r d))) → (i ≡ suc n) ⊎ (i ≡ suc n → ⊥) → IsSome (joined_to r.table (contour i r d))
      go before (inr other) = before i (omega (arith, lt, other))
      go before (inl e) = subst (λ k. IsSome (joined_to r.table (contour k r d))) (sym e) (last (options (joined_to r.table (contour (suc n) r d))))
        where
          last : (joined_to r.table (contour (suc n) r d) ≡ None) ⊎ ((x : ℕ × ℕ) × (joined_to r.table (contour (suc n) r d) ≡ Some x)) → IsSome (joined_to r.table (contour (suc n) r d))
          last (inr w) = there_some (joined_to r.table (contour (suc n) r d)) w.0 w.1
          last (inl none) =
              let y = contour (suc n) r d in
              let y_dart = contour_dart r table (suc n) d is_dart in
              let own = leads (contour (suc n) r d) y_dart in
              let same = same_ends (suc n) d is_dart before in
              absurd (not_both (end_at met d) end_some (subst (λ x. joined_to r.table x ≡ None) (own_end (count (contour (suc n) r d)) own ∙ same) none))
            where
              own_end : (k : ℕ) → LeadsTo r (contour (suc n) r d) (end_at met (contour (suc n) r d)) k → contour (suc n) r d ≡ end_at met (contour (suc n) r d)
              own_end zero l = sym (contour_none r (contour (suc n) r d)) ∙ l.comes
              own_end (suc k) l = absurd (not_both (contour (suc n) r d) (subst (λ x. IsSome (joined_to r.table x)) (contour_none r (contour (suc n) r d)) (l.joined 0 (omega arith))) none)

  -- it comes back as often as one likes
  many_rounds : (u : ℕ × ℕ) → IsDart r.table u → (s : ℕ) → (n : ℕ) × (s ≤ n) × (contour n r u ≡ u)
  many_rounds u u_dart zero = (0, omega arith, contour_none r u)
  many_rounds u u_dart (suc s) =
      let rest = many_rounds u u_dart s in
      let p = period r table u u_dart in
      let le = rest.1 in
      (suc p.0 + rest.0, omega (arith, le), contour_sum r (suc p.0) rest.0 (suc p.0 + rest.0) u refl ∙ (ap (contour (suc p.0) r) rest.2 ∙ p.1))

  module _ (d e : ℕ × ℕ) (is_dart : IsDart r.table d) (joined : joined_to r.table d ≡ Some e) where
    e_dart : IsDart r.table e
    e_dart = joined_dart r table d e joined

    d_some : IsSome (joined_to r.table d)
    d_some = there_some (joined_to r.table d) e joined

    e_some : IsSome (joined_to r.table e)
    e_some = there_some (joined_to r.table e) d (joined_back r table d e is_dart joined)

    -- m steps on, where as many more lead from there to an end as from e
    comes_after : (m k : ℕ) → k ≡ suc m + count e → contour k r d ≡ end_at met e → contour (suc m) r d ≡ e
    comes_after m k sum there =
        contour_one r table (count e) (contour (suc m) r d) e (contour_dart r table (suc m) d is_dart) e_dart (sym (contour_sum r (count e) (suc m) k d (omega (arith, sum))) ∙ (there ∙ sym (leads e e_dart).comes))

    over_comes : comes_over r met d e ≡ true → (k : ℕ) × Comes r d e k
    over_comes sure = go (one_holds (nat_lt (steps_at met e) (steps_at met d)) (is_some (joined_to r.table (end_at met d))) h2.1)
      where
        h2 : (((met_at met d).end == (met_at met e).end) ≡ true) × ((nat_lt (steps_at met e) (steps_at met d) || is_some (joined_to r.table (end_at met d))) ≡ true)
        h2 = both_hold ((met_at met d).end == (met_at met e).end) (nat_lt (steps_at met e) (steps_at met d) || is_some (joined_to r.table (end_at met d))) sure

        same : end_at met d ≡ end_at met e
        same = ap unpack (eqb-true (met_at met d).end (met_at met e).end h2.0)

        mine : LeadsTo r d (end_at met d) (count d)
        mine = leads d is_dart

        go : (nat_lt (steps_at met e) (steps_at met d) ≡ true) ⊎ (is_some (joined_to r.table (end_at met d)) ≡ true) → (k : ℕ) × Comes r d e k
        go (inl less) =
            let lt = ltb-true (steps_at met e) (steps_at met d) less in
            let a = counts d is_dart in
            let b = counts e e_dart in
            let m = count d - count e - 1 in (
              m,
              record {
                meets = comes_after m (count d) (omega (arith, lt, a, b)) (mine.comes ∙ same);
                before = λ j low. mine.joined (suc j) (omega (arith, low, lt, a, b));
              },
            )
        go (inr closed) =
            let some = test_some (joined_to r.table (end_at met d)) closed in
            let w = many_rounds (end_at met d) mine.dart (suc (count e)) in
            let le = w.1 in
            let k = w.0 + count d in
            let m = w.0 + count d - count e - 1 in
            let there : contour (w.0 + count d) r d ≡ end_at met e = contour_sum r w.0 (count d) (w.0 + count d) d refl ∙ (ap (contour w.0 r) mine.comes ∙ (w.2 ∙ same)) in (
              m,
              record {
                meets = comes_after m (w.0 + count d) (omega (arith, le)) there;
                before = λ j low. never_open d is_dart d_some some (suc j) (suc j) (omega arith);
              },
            )

    comes_found : (k : ℕ) → Comes r d e k → comes_over r met d e ≡ true
    comes_found k c = hold_both ((met_at met d).end == (met_at met e).end) (nat_lt (steps_at met e) (steps_at met d) || is_some (joined_to r.table (end_at met d))) (eq-eqb (met_at met d).end (met_at met e).end same_number) (go (options (joined_to r.table (end_at met d))))
      where
        on : (i : ℕ) → i < suc (suc k) → IsSome (joined_to r.table (contour i r d))
        on zero lt = subst (λ x. IsSome (joined_to r.table x)) (sym (contour_none r d)) d_some
        on (suc i) lt = at (cases_eq i k)
          where
            at : (i ≡ k) ⊎ (i ≡ k → ⊥) → IsSome (joined_to r.table (contour (suc i) r d))
            at (inl e1) = subst (λ n. IsSome (joined_to r.table (contour (suc n) r d))) (sym e1) (subst (λ x. IsSome (joined_to r.table x)) (sym c.meets) e_some)
            at (inr other) = c.before i (omega (arith, lt, other))

        same : end_at met e ≡ end_at met d
        same = ap (end_at met) (sym c.meets) ∙ same_ends (suc k) d is_dart (λ i lt. on i (omega (arith, lt)))

        same_number : (met_at met d).end ≡ (met_at met e).end
        same_number = sym (pack_unpack (met_at met d).end) ∙ (ap pack (sym same) ∙ pack_unpack (met_at met e).end)

        go : (joined_to r.table (end_at met d) ≡ None) ⊎ ((x : ℕ × ℕ) × (joined_to r.table (end_at met d) ≡ Some x)) → (nat_lt (steps_at met e) (steps_at met d) || is_some (joined_to r.table (end_at met d))) ≡ true
        go (inr w) = hold_one (nat_lt (steps_at met e) (steps_at met d)) (is_some (joined_to r.table (end_at met d))) (some_test (joined_to r.table (end_at met d)) (there_some (joined_to r.table (end_at met d)) w.0 w.1))
        go (inl none) = hold_first (nat_lt (steps_at met e) (steps_at met d)) (is_some (joined_to r.table (end_at met d))) (lt-ltb (steps_at met e) (steps_at met d) less)
          where
            mine : LeadsTo r d (end_at met d) (count d)
            mine = leads d is_dart

            its : LeadsTo r e (end_at met e) (count e)
            its = leads e e_dart

            far : suc k < count d
            far = low (cases_lt (suc k) (count d))
              where
                low : (suc k < count d) ⊎ (count d ≤ suc k) → suc k < count d
                low (inl lt) = lt
                low (inr le) = absurd (not_both (end_at met d) (subst (λ x. IsSome (joined_to r.table x)) mine.comes (on (count d) (omega (arith, le)))) none)

            not_before : (count d < count e + suc k) ⊎ (count e + suc k ≤ count d) → count e + suc k ≤ count d
            not_before (inr le) = le
            not_before (inl lt) =
                let i = count d - suc k in
                let sum : count d ≡ (count d - suc k) + suc k = omega (arith, far) in
                let at : contour (count d - suc k) r e ≡ end_at met d = ap (contour (count d - suc k) r) (sym c.meets) ∙ (sym (contour_sum r (count d - suc k) (suc k) (count d) d sum) ∙ mine.comes) in
                absurd (not_both (end_at met d) (subst (λ x. IsSome (joined_to r.table x)) at (its.joined (count d - suc k) (omega (arith, lt, far)))) none)

            less : steps_at met e < steps_at met d
            less = let le = not_before (cases_lt (count d) (count e + suc k)) in let a = counts d is_dart in let b = counts e e_dart in omega (arith, le, a, b)

    pub comes_over_is : comes_over r met d e ≡ comes_to (64 * length r.table.origins) r d e
    comes_over_is = same_tests (comes_over r met d e) (comes_to (64 * length r.table.origins) r d e) (λ sure. let w = over_comes sure in comes_soon r table d e w.0 is_dart w.1) (λ sure. let w = comes_steps r (64 * length r.table.origins) d e sure in comes_found w.0 w.2)
