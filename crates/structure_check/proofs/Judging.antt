-- What is known of the corner types that were passed, before and after one walk more.
use Rattle.std.proofs.Common.{◌≡◌, ◌≢◌, ℕ, zero, suc, ◌+◌, ◌-◌, ◌<◌, ◌≤◌, ◌⊎◌, inl, inr, min, List, length, replicate, sym, ap, ◌∙◌, subst, arith, ℤ, pos, ◌<ℤ◌, ◌≤ℤ◌}
use Rattle.std.proofs.lemmas.Bool.{cases_eq, cases_lt}
use Rattle.std.proofs.lemmas.List.{get_or-replicate, length-replicate, get_or_past}
use Rattle.tree_model.specs.Automata.{TreeAutomaton, outer}
use Rattle.tree_model.specs.OuterLinks.{led}
use Rattle.tree_model.specs.Conditions.{HasFallingCycles}
use Rattle.structure_check.specs.Cycles.{stamp_at, HaveOuters, HasPassed, IsRound, AreJudged}
use Rattle.tree_model.proofs.Alike.{seek}
use Rattle.tree_model.proofs.OuterLinks.{led_on}
use Rattle.structure_check.proofs.Laps.{led_back, falls_round, laps, least_fails, below_none}

module _ (a : TreeAutomaton) (outers : HaveOuters a) (g stamp : ℕ) (old new : List ℕ) (x links : ℕ) (p : HasPassed a g stamp old new x links) (given : stamp ≢ 0) where
  -- y was passed by this walk
  abbrev IsPassed : ℕ → Type 0
  IsPassed y = (i : ℕ) × (i < links) × (led a i g ≡ y)

  abbrev IsApart : ℕ → Type 0
  IsApart y = (i : ℕ) → i < links → led a i g ≢ y

  passed_or_not : (y : ℕ) → IsPassed y ⊎ IsApart y
  passed_or_not y = seek (λ i. led a i g) y links

  -- it was not passed before
  was_fresh : (y : ℕ) → IsPassed y → stamp_at old y ≡ 0
  was_fresh y (i, l, e) = ap (stamp_at old) (sym e) ∙ p.fresh i l

  -- what was passed before stays so
  pub kept : (y : ℕ) → stamp_at old y ≢ 0 → stamp_at new y ≢ 0
  kept y h = go (passed_or_not y)
    where
      go : IsPassed y ⊎ IsApart y → stamp_at new y ≢ 0
      go (inl at) = absurd (h (was_fresh y at))
      go (inr d) = λ e. h (sym (p.others y d) ∙ e)

  -- the outer one of what was passed by this walk
  next_passed : (y : ℕ) → IsPassed y → stamp_at new (outer a y).corner ≢ 0
  next_passed y (i, l, e) = go (cases_eq (suc i) links)
    where
      on : led a (suc i) g ≡ (outer a y).corner
      on = let s : i + 1 ≡ suc i = omega arith in ap (λ m. led a m g) (sym s) ∙ led_on a i 1 g ∙ ap (λ z. (outer a z).corner) e

      go : (suc i ≡ links) ⊎ (suc i ≢ links) → stamp_at new (outer a y).corner ≢ 0
      go (inl last) = λ z. p.stopped (ap (stamp_at new) (sym (p.ends) ∙ ap (λ m. led a m g) (sym last) ∙ on) ∙ z)
      go (inr inner) = λ z. given (sym (p.passed (suc i) (omega (arith, l, inner))) ∙ ap (stamp_at new) on ∙ z)

  -- it is led to x
  to_end : (y : ℕ) → IsPassed y → (j : ℕ) × (led a j y ≡ x)
  to_end y (i, l, e) =
      let s : i + (links - i) ≡ links = omega (arith, l) in
      (links - i, ap (led a (links - i)) (sym e) ∙ sym (led_on a i (links - i) g) ∙ ap (λ m. led a m g) s ∙ p.ends)

  -- this walk ended in itself: x is led back to x
  pub own : ((y : ℕ) → stamp_at old y ≢ stamp) → stamp_at new x ≡ stamp → (n : ℕ) × (n < links) × (led a (suc n) x ≡ x)
  own fresh h = go (passed_or_not x)
    where
      go : IsPassed x ⊎ IsApart x → (n : ℕ) × (n < links) × (led a (suc n) x ≡ x)
      go (inl (i, l, e)) =
          let n = (links - i) - 1 in
          let s : i + suc n ≡ links = omega (arith, l) in
          (n, omega (arith, l), ap (led a (suc n)) (sym e) ∙ sym (led_on a i (suc n) g) ∙ ap (λ m. led a m g) s ∙ p.ends)
      go (inr d) = absurd (fresh x (sym (p.others x d) ∙ h))

  -- this walk ended at what was passed before
  pub ended_before : stamp_at new x ≢ stamp → stamp_at old x ≢ 0
  ended_before h = go (passed_or_not x)
    where
      go : IsPassed x ⊎ IsApart x → stamp_at old x ≢ 0
      go (inl (i, l, e)) = absurd (h (ap (stamp_at new) (sym e) ∙ p.passed i l))
      go (inr d) = λ z. p.stopped (p.others x d ∙ z)

  -- where it began is passed
  pub begun : stamp_at new g ≢ 0
  begun = go (cases_eq links 0)
    where
      go : (links ≡ 0) ⊎ (links ≢ 0) → stamp_at new g ≢ 0
      go (inl z) = λ e. p.stopped (ap (stamp_at new) (sym p.ends ∙ ap (λ m. led a m g) z) ∙ e)
      go (inr d) = λ e. given (sym (p.passed 0 (omega (arith, d))) ∙ e)

  -- no mark is greater than the number of the walk
  pub stamps_most : ((y : ℕ) → stamp_at old y ≤ stamp) → (y : ℕ) → stamp_at new y ≤ stamp
  stamps_most low y = go (passed_or_not y)
    where
      go : IsPassed y ⊎ IsApart y → stamp_at new y ≤ stamp
      go (inl (i, l, e)) = let h = p.passed i l in let k = ap (stamp_at new) e in omega (arith, h, k)
      go (inr d) = let h = p.others y d in omega (arith, h, low y)

  module _ (least : ℕ) (judged : AreJudged a old least) where
    closed_on : (y : ℕ) → y < length a.corners → stamp_at new y ≢ 0 → stamp_at new (outer a y).corner ≢ 0
    closed_on y l h = go (passed_or_not y)
      where
        go : IsPassed y ⊎ IsApart y → stamp_at new (outer a y).corner ≢ 0
        go (inl at) = next_passed y at
        go (inr d) = kept (outer a y).corner (judged.closed y l (λ z. h (p.others y d ∙ z)))

    -- what was passed before leads to nothing else
    stays_passed : (n y : ℕ) → y < length a.corners → stamp_at old y ≢ 0 → stamp_at old (led a n y) ≢ 0
    stays_passed zero y l h = h
    stays_passed (suc n) y l h = stays_passed n (outer a y).corner (outers.linked y l) (judged.closed y l h)

    good_on : (below : ℕ) → below ≤ least → ((y : ℕ) → IsPassed y → y < below → HasFallingCycles a y) → (y : ℕ) → y < length a.corners → stamp_at new y ≢ 0 → y < below → HasFallingCycles a y
    good_on below few mine y l h b = go (passed_or_not y)
      where
        go : IsPassed y ⊎ IsApart y → HasFallingCycles a y
        go (inl at) = mine y at b
        go (inr d) = judged.good y l (λ z. h (p.others y d ∙ z)) (omega (arith, few, b))

    -- the walk ended at what was passed before: it lies on no cycle
    pub judged_old : stamp_at old x ≢ 0 → AreJudged a new least
    judged_old h = record {
      closed = closed_on;
      good = good_on least (omega arith) (λ y at b n back.
          let (j, to) = to_end y at in
          let (r, e) = led_back a y j n back in
          let there = stays_passed r x p.known h in
          absurd (there (ap (stamp_at old) (ap (led a r) (sym to) ∙ e) ∙ was_fresh y at)));
      found = judged.found;
      within = judged.within;
    }

    -- it ended in itself, and its cycle falls
    pub judged_falling : (sum : ℤ) (m : ℕ) → IsRound a x sum m → sum <ℤ pos 0 → AreJudged a new least
    judged_falling sum m r low = record {
      closed = closed_on;
      good = good_on least (omega arith) (λ y at b. let (j, to) = to_end y at in falls_round a x y j to (laps a x sum m r low));
      found = judged.found;
      within = judged.within;
    }

    -- its cycle does not fall, but a lesser one was found
    pub judged_greater : (sum : ℤ) (m : ℕ) → IsRound a x sum m → least ≤ m → AreJudged a new least
    judged_greater sum m r more = record {
      closed = closed_on;
      good = good_on least (omega arith) (λ y at b. let (j, to) = to_end y at in below_none a x sum m r y j to (omega (arith, b, more)));
      found = judged.found;
      within = judged.within;
    }

    pub judged_lesser : (sum : ℤ) (m : ℕ) → IsRound a x sum m → pos 0 ≤ℤ sum → m < least → AreJudged a new m
    judged_lesser sum m r up less = record {
      closed = closed_on;
      good = good_on m (omega (arith, less)) (λ y at b. let (j, to) = to_end y at in below_none a x sum m r y j to b);
      found = λ l. least_fails a x sum m r up;
      within = omega (arith, less, judged.within);
    }

    -- it ended in itself, and its cycle is judged
    pub judged_own : (sum : ℤ) (m : ℕ) → IsRound a x sum m → (sum <ℤ pos 0 → AreJudged a new least) × (pos 0 ≤ℤ sum → AreJudged a new (min least m))
    judged_own sum m r = (judged_falling sum m r, λ up. go up (cases_lt m least))
      where
        go : pos 0 ≤ℤ sum → (m < least) ⊎ (least ≤ m) → AreJudged a new (min least m)
        go up (inl l) = let e : m ≡ min least m = omega (arith, l) in subst (AreJudged a new) e (judged_lesser sum m r up l)
        go up (inr g) = let e : least ≡ min least m = omega (arith, g) in subst (AreJudged a new) e (judged_greater sum m r g)

-- The corner types below g were passed, and are judged.
pub record IsFar (a : TreeAutomaton) (seen : List ℕ) (least g : ℕ) : Type 0 where
  pub long : length seen ≡ 20000
  pub stamps : (y : ℕ) → stamp_at seen y ≤ g
  pub passed : (y : ℕ) → y < g → stamp_at seen y ≢ 0
  pub judged : AreJudged a seen least

pub far_none : (a : TreeAutomaton) → IsFar a (replicate 20000 0) (length a.corners) 0
far_none a = record {
  long = length-replicate {A = ℕ} 20000 0;
  stamps = λ y. omega (arith, none y);
  passed = λ y l. absurd (omega (arith, l));
  judged = record {
    closed = λ y l h. absurd (h (none y));
    good = λ y l h. absurd (h (none y));
    found = λ l. absurd (omega (arith, l));
    within = omega arith;
  };
}
  where
    none : (y : ℕ) → stamp_at (replicate 20000 0) y ≡ 0
    none y = go (cases_lt y 20000)
      where
        go : (y < 20000) ⊎ (20000 ≤ y) → stamp_at (replicate 20000 0) y ≡ 0
        go (inl l) = get_or-replicate 20000 y 0 0 l
        go (inr h) = let n : length (replicate {A = ℕ} 20000 0) ≡ 20000 = length-replicate {A = ℕ} 20000 0 in get_or_past (replicate 20000 0) y 0 (omega (arith, n, h))
