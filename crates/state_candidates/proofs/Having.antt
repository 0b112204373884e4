-- What is read with one reader after the other.
use Rattle.std.proofs.Common.{◌≡◌, ℕ, zero, suc, ◌+◌, ◌-◌, ◌<◌, ◌≤◌, List, take, length, sum_by, slice_index_or, Option, Some, sym, ap, ◌∙◌, subst, inl, inr, arith, add-one}
use Rattle.std.proofs.Math.Nat.{eq-or-lt_of_le}
use Rattle.std.proofs.lemmas.Bool.{cases_lt}
use Rattle.look_classes.specs.Classes.{ClassLists}
use Rattle.state_candidates.specs.Reading.{IsFirstWith}
use Rattle.state_candidates.specs.Candidates.{lists_at}
use Rattle.state_candidates.specs.Readers.{ReaderState, AreRead, GoesOn}
use Rattle.state_candidates.specs.Gathered.{reader_at, lists_of, HaveRead}
use Rattle.state_candidates.proofs.Gathering.{before_more, lists_long, lists_read}

pub before_mono : (f : ClassLists → ℕ) (lists : List ClassLists) (j k : ℕ) → j ≤ k → k ≤ length lists → sum_by f (take j lists) ≤ sum_by f (take k lists)
before_mono f lists j zero le within = let same : j ≡ 0 = omega (arith, le) in subst (λ n. sum_by f (take n lists) ≤ sum_by f (take 0 lists)) (sym same) (omega arith)
before_mono f lists j (suc k) le within = elim (eq-or-lt_of_le le) [
  | inl same ↦ subst (λ n. sum_by f (take n lists) ≤ sum_by f (take (suc k) lists)) (sym same) (omega arith)
  | inr less ↦ subst (λ n. sum_by f (take j lists) ≤ sum_by f (take n lists)) (add-one k) (omega (arith, before_mono f lists j k (omega (arith, less)) (omega (arith, within)), before_more f lists k (omega (arith, within))))
]

-- a number below that of all is one of some part
pub record IsPart (f : ClassLists → ℕ) (lists : List ClassLists) (all g : ℕ) : Type 0 where
  pub part : ℕ
  pub number : ℕ
  pub within : part < all
  pub below : number < f (lists_at lists part)
  pub is : g ≡ sum_by f (take part lists) + number

pub find_part : (f : ClassLists → ℕ) (lists : List ClassLists) (all : ℕ) → all ≤ length lists → (g : ℕ) → g < sum_by f (take all lists) → IsPart f lists all g
find_part f lists zero within g below = absurd (omega (arith, below))
find_part f lists (suc k) within g below = elim (cases_lt g (sum_by f (take k lists))) [
  | inl less ↦ let p = find_part f lists k (omega (arith, within)) g less in record { part = p.part; number = p.number; within = omega (arith, p.within); below = p.below; is = p.is }
  | inr more ↦
      let last : sum_by f (take (suc k) lists) ≡ sum_by f (take k lists) + f (lists_at lists k) = ap (λ n. sum_by f (take n lists)) (sym (add-one k)) ∙ before_more f lists k (omega (arith, within)) in
      record {
        part = k;
        number = g - sum_by f (take k lists);
        within = omega arith;
        below = omega (arith, below, last, more);
        is = omega (arith, more);
      }
]

module _ {A B : Type 0} (numbers : ℕ → List (Option ℕ)) (of : ℕ → ℕ → Option B) (show : A → B) (first : ℕ → ℕ) (none : A) where
  pub have_more : (list list' : List A) (n count : ℕ) → HaveRead numbers of show first none list n → GoesOn none list list'
      → ((k m i : ℕ) → k < n → IsFirstWith (numbers k) m i → first k + m < length list)
      → first (n + 1) ≡ first n + count → AreRead (numbers n) count (of n) show (first n) none list'
      → HaveRead numbers of show first none list' (n + 1)
  have_more list list' n count h on within next one = record {
    long = one.long ∙ sym next;
    each = λ k m i less at.
        let le : k ≤ n = omega (arith, less) in
        elim (eq-or-lt_of_le le) [
          | inl same ↦ subst (λ j. of j i ≡ Some (show (slice_index_or list' (first j + m) none))) (sym same) (one.each m i (subst (λ j. IsFirstWith (numbers j) m i) same at))
          | inr lower ↦ h.each k m i lower at ∙ ap (λ a. Some (show a)) (sym (on.kept (first k + m) (within k m i lower at)))
        ];
  }

-- a number of a reader's states is below the number of states before the next readers
pub number_within : (f : ClassLists → ℕ) (rs : List ReaderState) (k n m : ℕ) → k < n → n ≤ length rs → m < f (reader_at rs k).lists → sum_by f (take k (lists_of rs)) + m < sum_by f (take n (lists_of rs))
number_within f rs k n m less within below =
    let ls = lists_of rs in
    omega (arith, before_more f ls k (omega (arith, lists_long rs, less, within)), before_mono f ls (k + 1) n (omega (arith, less)) (omega (arith, lists_long rs, within)), ap f (lists_read rs k (omega (arith, less, within))), below)
