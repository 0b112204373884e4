-- The search for cycles of outer links that do not fall. Walks along outer links start at each
-- corner type in turn. Each stamps the corner types that it passes with a number of its own, from 1
-- on, and 0 is no stamp. It ends at the first corner type that has a stamp: where that is its own,
-- it has gone into a cycle that no walk before it met, and goes round it once more.
use Rattle.std.specs.Prelude.{◌≡◌, ◌≢◌, ℕ, zero, suc, ◌<◌, ◌≤◌, List, length, slice_index_or, ℤ, pos, ◌-ℤ◌, ◌≤ℤ◌, ◌<ℤ◌, Bool, true, false}
use Rattle.std.specs.List.{sum_by}
use Rattle.tree_model.specs.Automata.{TreeAutomaton, outer, corner_valence}
use Rattle.tree_model.specs.OuterLinks.{entered, led, entered_sum}
use Rattle.tree_model.specs.Conditions.{HasFallingCycles}

-- the stamp of a corner type
abbrev pub stamp_at : List ℕ → ℕ → ℕ
stamp_at seen g = slice_index_or seen g 0

-- 1 where there is no stamp
abbrev pub as_none : ℕ → ℕ
as_none zero = 1
as_none (suc n) = 0

-- how many have no stamp
abbrev pub unstamped : List ℕ → ℕ
unstamped seen = sum_by as_none seen

-- What the search stands on: each corner type has an outer one, which is entered at one of its
-- places, and no entered offset is over 64 in absolute value.
pub record HaveOuters (a : TreeAutomaton) : Type 0 where
  pub few : length a.corners ≤ 20000
  pub linked : (g : ℕ) → g < length a.corners → (outer a g).corner < length a.corners
  pub places :
      (g : ℕ) → g < length a.corners → (outer a g).place < corner_valence a (outer a g).corner
  pub least : (g : ℕ) → g < length a.corners → (pos 0 -ℤ pos 64) ≤ℤ entered a g
  pub most : (g : ℕ) → g < length a.corners → entered a g ≤ℤ pos 64

-- The walk from g, whose number is stamp, has followed so many links, up to x: it has stamped the
-- corner types before x, which had no stamp, and x has one.
pub record HasPassed (a : TreeAutomaton) (g stamp : ℕ) (old new : List ℕ)
    (x links : ℕ) : Type 0 where
  pub long : length new ≡ length old
  pub few : links ≤ length old
  pub known : x < length a.corners
  pub ends : led a links g ≡ x
  pub fresh : (i : ℕ) → i < links → stamp_at old (led a i g) ≡ 0
  pub passed : (i : ℕ) → i < links → stamp_at new (led a i g) ≡ stamp
  pub others : (y : ℕ) → ((i : ℕ) → i < links → led a i g ≢ y) → stamp_at new y ≡ stamp_at old y
  pub stopped : stamp_at new x ≢ 0

-- The links from x lead back to it: how many there are less one, the sum of the offsets that they
-- enter, and the least corner type on the way.
pub record IsRound (a : TreeAutomaton) (x : ℕ) (sum : ℤ) (least : ℕ) : Type 0 where
  pub links : ℕ
  pub back : led a (suc links) x ≡ x
  pub summed : sum ≡ entered_sum a (suc links) x
  pub first : (i : ℕ) → i < links → led a (suc i) x ≢ x
  pub on : (i : ℕ) × (i ≤ links) × (led a i x ≡ least)
  pub low : (i : ℕ) → i ≤ links → least ≤ led a i x

-- The cycle of x, its least corner type, and whether the sum is below 0.
pub record IsSettled (a : TreeAutomaton) (x : ℕ) (falls : Bool) (least : ℕ) : Type 0 where
  pub sum : ℤ
  pub round : IsRound a x sum least
  pub low : falls ≡ true → sum <ℤ pos 0
  pub high : falls ≡ false → pos 0 ≤ℤ sum

-- What is known of the corner types with a stamp. Their links lead to such ones. Those below least
-- lie on falling cycles alone. Where least is a corner type, it lies on one that does not fall.
-- Where it is their number, none was found.
pub record AreJudged (a : TreeAutomaton) (seen : List ℕ) (least : ℕ) : Type 0 where
  pub closed :
      (y : ℕ) → y < length a.corners → stamp_at seen y ≢ 0 → stamp_at seen (outer a y).corner ≢ 0
  pub good :
      (y : ℕ) → y < length a.corners → stamp_at seen y ≢ 0 → y < least → HasFallingCycles a y
  pub found : least < length a.corners → ¬ (HasFallingCycles a least)
  pub within : least ≤ length a.corners
