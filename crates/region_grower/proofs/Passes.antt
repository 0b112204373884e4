-- Passes, one after the other.
use Rattle.std.proofs.Common.{◌≡◌, ℕ, ◌+◌, ◌<◌, ◌≤◌, ◌||◌, Bool, true, false, List, sum, refl, sym, ap, ◌∙◌, subst, inl, inr, arith}
use Rattle.std.proofs.lemmas.Bool.{cases_eq}
use Rattle.coincidence.specs.Tables.{JoinTable}
use Rattle.coincidence.specs.Joined.{IsTable}
use Rattle.region_grower.specs.Regions.{unfinished}
use Rattle.region_grower.specs.Passes.{HasPassed, HasLowered}
use Rattle.region_grower.proofs.Left.{closed_on_same, closed_on_both}

or_false : (a b : Bool) → (a || b) ≡ false → (a ≡ false) × (b ≡ false)
or_false true b e = absurd (cc (e))
or_false false b e = (refl, e)

-- nothing was tried, or what was tried changed nothing
pub passed_none : {D : JoinTable → Type 0} (t : JoinTable) → IsTable t → D t → HasPassed t t false D
passed_none t table done = record { table = table; moved = closed_on_same t table; falls = λ e. absurd (cc (e)); unchanged = λ e. refl; done = λ e. done }

pub passed_on : {D E F : JoinTable → Type 0} (t t' t'' : JoinTable) (a b : Bool) → IsTable t → (D t → E t → F t) → HasPassed t t' a D → HasPassed t' t'' b E → HasPassed t t'' (a || b) F
passed_on {D} {E} {F} t t' t'' true b table both one two = record {
  table = two.table;
  moved = closed_on_both t t' t'' table one.moved two.moved;
  falls = λ e. let first = one.falls refl in let second = two.moved.falls in omega (arith, first, second);
  unchanged = λ e. absurd (cc (e));
  done = λ e. absurd (cc (e));
}
passed_on {D} {E} {F} t t' t'' false b table both one two =
    let same = one.unchanged refl in
    record {
      table = two.table;
      moved = closed_on_both t t' t'' table one.moved two.moved;
      falls = λ e. subst (λ x. unfinished t'' < unfinished x) same (two.falls e);
      unchanged = λ e. two.unchanged e ∙ same;
      done = λ e. both (one.done refl) (subst E same (two.done e));
    }

pub passed_as : {D E : JoinTable → Type 0} (t t' : JoinTable) (a : Bool) → (D t → E t) → HasPassed t t' a D → HasPassed t t' a E
passed_as t t' a on h = record { table = h.table; moved = h.moved; falls = h.falls; unchanged = h.unchanged; done = λ e. on (h.done e) }

pub lowered_none : {D : List ℕ → Type 0} (t : JoinTable) (radii : List ℕ) → D radii → HasLowered t radii radii false D
lowered_none t radii done = record { long = refl; reached = λ r. r; first = λ z. z; falls = λ e. absurd (cc (e)); unchanged = λ e. refl; done = λ e. done }

pub lowered_on : {D E F : List ℕ → Type 0} (t : JoinTable) (r r' r'' : List ℕ) (a b : Bool) → (D r → E r → F r) → HasLowered t r r' a D → HasLowered t r' r'' b E → HasLowered t r r'' (a || b) F
lowered_on {D} {E} {F} t r r' r'' true b both one two = record {
  long = two.long ∙ one.long;
  reached = λ h. two.reached (one.reached h);
  first = λ z. two.first (one.first z);
  falls = λ e. let first = one.falls refl in let second = lowered_le b two in omega (arith, first, second);
  unchanged = λ e. absurd (cc (e));
  done = λ e. absurd (cc (e));
}
  where
    lowered_le : (b : Bool) → HasLowered t r' r'' b E → sum r'' ≤ sum r'
    lowered_le true two = let less = two.falls refl in omega (arith, less)
    lowered_le false two = let same = ap (λ (x : List ℕ). sum x) (two.unchanged refl) in omega (arith, same)
lowered_on {D} {E} {F} t r r' r'' false b both one two =
    let same = one.unchanged refl in
    record {
      long = two.long ∙ one.long;
      reached = λ h. two.reached (one.reached h);
      first = λ z. two.first (one.first z);
      falls = λ e. subst (λ x. sum r'' < sum x) same (two.falls e);
      unchanged = λ e. two.unchanged e ∙ same;
      done = λ e. both (one.done refl) (subst E same (two.done e));
    }

pub lowered_as : {D E : List ℕ → Type 0} (t : JoinTable) (r r' : List ℕ) (a : Bool) → (D r → E r) → HasLowered t r r' a D → HasLowered t r r' a E
lowered_as t r r' a on h = record { long = h.long; reached = h.reached; first = h.first; falls = h.falls; unchanged = h.unchanged; done = λ e. on (h.done e) }

-- what holds of the cells before and of this one
pub cells_more : (P : ℕ → ℕ → Type 0) (n : ℕ) → ((c i : ℕ) → c < n → P c i) → ((i : ℕ) → P n i) → (c i : ℕ) → c < n + 1 → P c i
cells_more P n before here c i low = elim (cases_eq c n) [
  | inl e ↦ subst (λ x. P x i) (sym e) (here i)
  | inr other ↦ before c i (omega (arith, low, other))
]
