-- What is read off the first entry with each number, entry by entry.
use Rattle.std.proofs.Common.{◌≡◌, ℕ, ◌+◌, ◌<◌, ◌≤◌, List, [], ◌∷◌, ◌++◌, length, slice_index_or, Option, None, Some, sym, ap, ◌∙◌, subst, inl, inr, arith}
use Rattle.std.proofs.Math.ListN.{length-append, get_or-append}
use Rattle.std.proofs.Math.Nat.{eq-or-lt_of_le}
use Rattle.std.proofs.lemmas.List.{get_or_push, get_or_past}
use Rattle.std.proofs.lemmas.Bool.{cases_lt, cases_eq}
use Rattle.std.proofs.lemmas.Option.{same_Some}
use Rattle.look_classes.specs.Numbers.{entry, AreNumbers}
use Rattle.state_candidates.specs.Reading.{IsFirstWith}
use Rattle.state_candidates.specs.Readers.{AreReadTo, AreRead}

-- what holds below n + 1, by the last one and those before
last_or : {P : Type 0} (i n : ℕ) → i < n + 1 → (i ≡ n → P) → (i < n → P) → P
last_or i n less at below = let le : i ≤ n = omega arith in elim (eq-or-lt_of_le le) [ inl same ↦ at same | inr lower ↦ below lower ]

module _ {A B : Type 0} (numbers : List (Option ℕ)) (of : ℕ → Option B) (show : A → B) (first : ℕ) (none : A) where
  pub nothing_read : (list : List A) → length list ≡ first → AreReadTo numbers of show first none list 0
  nothing_read list long = record {
    next = 0;
    count = omega (arith, long);
    met = λ k. ((λ below. absurd (omega (arith, below))), (λ some. absurd (omega (arith, some.1))));
    each = λ m i below _. absurd (omega (arith, below));
  }

  module _ (list : List A) (n : ℕ) (h : AreReadTo numbers of show first none list n) where
    pub read_none : entry numbers n ≡ None → AreReadTo numbers of show first none list (n + 1)
    read_none is = record {
      next = h.next;
      count = h.count;
      met = λ k. (
        (λ below. let some = (h.met k).0 below in (some.0, omega (arith, some.1), some.2)),
        (λ some. last_or some.0 n some.1
            (λ same. let e : entry numbers n ≡ Some k = subst (λ i. entry numbers i ≡ Some k) same some.2 in absurd (cc (e, is)))
            (λ lower. (h.met k).1 (some.0, lower, some.2))),
      );
      each = λ m i less at. last_or i n less
          (λ same. let e : entry numbers n ≡ Some m = subst (λ i. entry numbers i ≡ Some m) same at.here in absurd (cc (e, is)))
          (λ lower. h.each m i lower at);
    }

    module _ (m : ℕ) (is : entry numbers n ≡ Some m) where
      same_number : (k i : ℕ) → i ≡ n → entry numbers i ≡ Some k → k ≡ m
      same_number k i same e = same_Some k m (sym (subst (λ i. entry numbers i ≡ Some k) same e) ∙ is)

      -- a number that was met
      read_met : m < h.next → AreReadTo numbers of show first none list (n + 1)
      read_met old = record {
        next = h.next;
        count = h.count;
        met = λ k. (
          (λ below. let some = (h.met k).0 below in (some.0, omega (arith, some.1), some.2)),
          (λ some. last_or some.0 n some.1
              (λ same. subst (λ j. j < h.next) (sym (same_number k some.0 same some.2)) old)
              (λ lower. (h.met k).1 (some.0, lower, some.2))),
        );
        each = λ k i less at. last_or i n less
            (λ same.
            let e : k ≡ m = same_number k i same at.here in
            let some = (h.met m).0 old in
            absurd (at.before some.0 (subst (λ j. some.0 < j) (sym same) some.1) (subst (λ j. entry numbers some.0 ≡ Some j) (sym e) some.2)))
            (λ lower. h.each k i lower at);
      }

      pub read_old : {L : Type 0} (met : List (Option L)) (count : ℕ) → AreNumbers met numbers count → ¬ (first + m ≡ length list) → AreReadTo numbers of show first none list (n + 1)
      read_old met count ok apart = elim (cases_lt m h.next) [
        | inl old ↦ read_met old
        | inr more ↦ elim (cases_eq h.next m) [
          | inl same ↦ absurd (apart (omega (arith, same, h.count)))
          | inr differs ↦
              let some = ok.first n m h.next is (omega (arith, more, differs)) in
              let below : h.next < h.next = (h.met h.next).1 some in
              absurd (omega (arith, below))
        ]
      ]

      -- a number that is new
      pub is_new : first + m ≡ length list → IsFirstWith numbers m n
      is_new new = record {
        here = is;
        before = λ j lower e.
            let below : m < h.next = (h.met m).1 (j, lower, e) in
            omega (arith, below, new, h.count);
      }

      pub read_new : first + m ≡ length list → (a : A) → of n ≡ Some (show a) → AreReadTo numbers of show first none (list ++ a ∷ []) (n + 1)
      read_new new a one = record {
        next = h.next + 1;
        count = omega (arith, length-append list (a ∷ []), h.count);
        met = λ k. (
          (λ below. last_or k h.next below
              (λ same. (n, omega arith, is ∙ ap (λ j. Some j) (omega (arith, same, new, h.count))))
              (λ lower. let some = (h.met k).0 lower in (some.0, omega (arith, some.1), some.2))),
          (λ some. last_or some.0 n some.1
              (λ same. omega (arith, same_number k some.0 same some.2, new, h.count))
              (λ lower. let below : k < h.next = (h.met k).1 (some.0, lower, some.2) in omega (arith, below))),
        );
        each = λ k i less at. last_or i n less
            (λ same.
            let e : k ≡ m = same_number k i same at.here in
            let here : slice_index_or (list ++ a ∷ []) (first + k) none ≡ a = get_or_push list a none (first + k) (omega (arith, e, new)) in
            subst (λ j. of j ≡ Some (show (slice_index_or (list ++ a ∷ []) (first + k) none))) (sym same) (one ∙ ap (λ b. Some (show b)) (sym here)))
            (λ lower.
            let below : k < h.next = (h.met k).1 (i, lower, at.here) in
            let kept : slice_index_or (list ++ a ∷ []) (first + k) none ≡ slice_index_or list (first + k) none = get_or-append list (a ∷ []) none (first + k) (omega (arith, below, h.count)) in
            h.each k i lower at ∙ ap (λ b. Some (show b)) (sym kept));
      }

  -- All entries have been met.
  pub read_all : {L : Type 0} (met : List (Option L)) (count : ℕ) → AreNumbers met numbers count → (list : List A) (n : ℕ) → n ≡ length numbers
      → AreReadTo numbers of show first none list n → AreRead numbers count of show first none list
  read_all met count ok list n all h = record {
    long = omega (arith, h.count, same);
    each = λ m i at. h.each m i (within i m at.here) at;
  }
    where
      within : (i m : ℕ) → entry numbers i ≡ Some m → i < n
      within i m is = elim (cases_lt i n) [
        | inl below ↦ below
        | inr past ↦ let gone : entry numbers i ≡ None = get_or_past numbers i None (omega (arith, past, all)) in absurd (cc (is, gone))
      ]

      no_less : ¬ (h.next < count)
      no_less less =
          let some = (ok.counted h.next).0 less in
          let below : h.next < h.next = (h.met h.next).1 (some.0, within some.0 h.next some.1, some.1) in
          omega (arith, below)

      no_more : ¬ (count < h.next)
      no_more more =
          let some = (h.met count).0 more in
          let below : count < count = (ok.counted count).1 (some.0, some.2) in
          omega (arith, below)

      same : h.next ≡ count
      same = elim (cases_lt h.next count) [
        | inl less ↦ absurd (no_less less)
        | inr not_less ↦ elim (cases_lt count h.next) [
          | inl more ↦ absurd (no_more more)
          | inr not_more ↦ omega (arith, not_less, not_more)
        ]
      ]
