-- The walk along outer links while it passes them.
use Rattle.std.proofs.Common.{◌≡◌, ◌≢◌, ℕ, zero, suc, ◌+◌, ◌<◌, ◌≤◌, ◌⊎◌, inl, inr, List, [], ◌∷◌, length, slice_set, refl, sym, ap, ◌∙◌, arith}
use Rattle.std.proofs.lemmas.Bool.{cases_eq}
use Rattle.std.proofs.lemmas.List.{get_or-set_same, get_or-set_other, length-set}
use Rattle.std.proofs.lemmas.List.Sums.{sum_by-set, sum_by-cons}
use Rattle.tree_model.specs.Automata.{TreeAutomaton, outer}
use Rattle.tree_model.specs.OuterLinks.{led}
use Rattle.structure_check.specs.Cycles.{stamp_at, as_none, unstamped, HaveOuters, HasPassed}
use Rattle.tree_model.proofs.Alike.{seek}
use Rattle.tree_model.proofs.OuterLinks.{led_on}

as_none_most : (n : ℕ) → as_none n ≤ 1
as_none_most zero = omega arith
as_none_most (suc n) = omega arith

unstamped_most : (seen : List ℕ) → unstamped seen ≤ length seen
unstamped_most [] = omega arith
unstamped_most (n ∷ seen) =
    let e : unstamped (n ∷ seen) ≡ as_none n + unstamped seen = sum_by-cons as_none n seen in
    omega (arith, e, as_none_most n, unstamped_most seen)

as_none_stamped : (n : ℕ) → n ≢ 0 → as_none n ≡ 0
as_none_stamped zero h = absurd (h refl)
as_none_stamped (suc n) h = refl

-- From g so many links have been passed, to x.
pub record IsPassing (a : TreeAutomaton) (g stamp : ℕ) (old seen : List ℕ) (x links : ℕ) : Type 0 where
  pub long : length seen ≡ length old
  pub count : links + unstamped seen ≡ unstamped old
  pub known : x < length a.corners
  pub ends : led a links g ≡ x
  pub fresh : (i : ℕ) → i < links → stamp_at old (led a i g) ≡ 0
  pub passed : (i : ℕ) → i < links → stamp_at seen (led a i g) ≡ stamp
  pub others : (y : ℕ) → ((i : ℕ) → i < links → led a i g ≢ y) → stamp_at seen y ≡ stamp_at old y

module _ (a : TreeAutomaton) (outers : HaveOuters a) (g stamp : ℕ) (old : List ℕ) where
  pub passing_none : g < length a.corners → IsPassing a g stamp old old g 0
  passing_none l = record {
    long = refl;
    count = omega arith;
    known = l;
    ends = refl;
    fresh = λ i h. absurd (omega (arith, h));
    passed = λ i h. absurd (omega (arith, h));
    others = λ y h. refl;
  }

  module _ (seen : List ℕ) (x links : ℕ) (p : IsPassing a g stamp old seen x links) where
    pub passing_few : links ≤ length old
    passing_few = omega (arith, p.count, unstamped_most old)

    pub passing_done : stamp_at seen x ≢ 0 → HasPassed a g stamp old seen x links
    passing_done h = record { long = p.long; few = passing_few; known = p.known; ends = p.ends; fresh = p.fresh; passed = p.passed; others = p.others; stopped = h }

    module _ (given : stamp ≢ 0) (none : stamp_at seen x ≡ 0) (within : x < length seen) where
      abbrev next : List ℕ
      next = slice_set seen x stamp

      pub fewer : suc (unstamped next) ≡ unstamped seen
      fewer =
          let s = sum_by-set as_none seen x stamp 0 within in
          let t = as_none_stamped stamp given in
          let u = ap as_none none in
          omega (arith, s, t, u)

      x_fresh : stamp_at old x ≡ 0
      x_fresh = go (seek (λ i. led a i g) x links)
        where
          go : ((i : ℕ) × (i < links) × (led a i g ≡ x)) ⊎ ((i : ℕ) → i < links → led a i g ≢ x) → stamp_at old x ≡ 0
          go (inl (i, l, e)) = absurd (given (sym (p.passed i l) ∙ ap (stamp_at seen) e ∙ none))
          go (inr d) = sym (p.others x d) ∙ none

      on : led a (suc links) g ≡ (outer a x).corner
      on = let s : links + 1 ≡ suc links = omega arith in ap (λ m. led a m g) (sym s) ∙ led_on a links 1 g ∙ ap (λ z. (outer a z).corner) p.ends

      set_at : (y : ℕ) → y ≡ x → stamp_at next y ≡ stamp
      set_at y e = ap (stamp_at next) e ∙ get_or-set_same seen x stamp 0 within

      set_other : (y : ℕ) → y ≢ x → stamp_at next y ≡ stamp_at seen y
      set_other y d = get_or-set_other seen x y stamp 0 d

      fresh_on : (i : ℕ) → i < suc links → stamp_at old (led a i g) ≡ 0
      fresh_on i l = go (cases_eq i links)
        where
          go : (i ≡ links) ⊎ (i ≢ links) → stamp_at old (led a i g) ≡ 0
          go (inl e) = ap (λ m. stamp_at old (led a m g)) e ∙ ap (stamp_at old) p.ends ∙ x_fresh
          go (inr d) = p.fresh i (omega (arith, l, d))

      passed_on : (i : ℕ) → i < suc links → stamp_at next (led a i g) ≡ stamp
      passed_on i l = go (cases_eq i links) (cases_eq (led a i g) x)
        where
          go : (i ≡ links) ⊎ (i ≢ links) → (led a i g ≡ x) ⊎ (led a i g ≢ x) → stamp_at next (led a i g) ≡ stamp
          go _ (inl e) = set_at (led a i g) e
          go (inl e) (inr d) = absurd (d (ap (λ m. led a m g) e ∙ p.ends))
          go (inr f) (inr d) = set_other (led a i g) d ∙ p.passed i (omega (arith, l, f))

      others_on : (y : ℕ) → ((i : ℕ) → i < suc links → led a i g ≢ y) → stamp_at next y ≡ stamp_at old y
      others_on y apart = set_other y (λ e. apart links (omega arith) (p.ends ∙ sym e)) ∙ p.others y (λ i l. apart i (omega (arith, l)))

      pub passing_on : IsPassing a g stamp old next (outer a x).corner (suc links)
      passing_on = record {
        long = length-set seen x stamp ∙ p.long;
        count = omega (arith, p.count, fewer);
        known = outers.linked x p.known;
        ends = on;
        fresh = fresh_on;
        passed = passed_on;
        others = others_on;
      }
