-- What the states and corner types of one region are read with.
use Rattle.std.specs.Prelude.{◌≡◌, ℕ, ◌+◌, ◌<◌, ◌≤◌, ◌↔◌, List, length, ℤ, slice_index, slice_index_or, Option, None, Some}
use Rattle.tree_model.specs.declared.Claim.{Claim}
use Rattle.tree_model.specs.Automata.{TreeState, CornerType, no_state, no_corner}
use Rattle.coincidence.specs.Joined.{IsTable}
use Rattle.region_grower.specs.Regions.{RegionState}
use Rattle.look_classes.specs.Tree.{dart_of}
use Rattle.look_classes.specs.Numbers.{entry}
use Rattle.look_classes.specs.Classes.{ClassLists, AreClasses, made, sides_below}
use Rattle.state_candidates.specs.Reading.{IsFirstWith, state_of, corner_of}

-- A region, the classes of its cells and corners to a horizon, and the numbers of its first state
-- and its first corner type.
pub record ReaderState : Type 0 where
  pub region : RegionState
  pub horizon : ℕ
  pub lists : ClassLists
  pub first_state : ℕ
  pub first_corner : ℕ

-- where the corners of each cell begin
pub record AreStarts (r : RegionState) (starts : List ℕ) : Type 0 where
  pub long : length starts ≡ made r
  pub each : (c : ℕ) → c < made r → slice_index starts c ≡ length (sides_below c r)

-- The classes are those of the region, and there are not too many of them.
pub record IsReader (v : ReaderState) : Type 0 where
  pub table : IsTable v.region.table
  pub classes : AreClasses v.horizon v.region v.lists
  pub few_states : v.first_state + v.lists.cell_count ≤ 100000
  pub few_corners : v.first_corner + v.lists.corner_count ≤ 20000

pub record IsReaderWith (v : ReaderState) (starts : List ℕ) : Type 0 where
  pub reader : IsReader v
  pub begins : AreStarts v.region starts

-- the numbers below `next` are those of the first n entries
abbrev pub HaveMet : List (Option ℕ) → ℕ → ℕ → Type 0
HaveMet numbers n next =
    (k : ℕ) → (k < next) ↔ ((i : ℕ) × (i < n) × (entry numbers i ≡ Some k))

-- Of the first n entries what is read off the first one with each number stands in a list, from
-- `first` on, in the order of the numbers.
pub record AreReadTo {A B : Type 0} (numbers : List (Option ℕ)) (of : ℕ → Option B) (show : A → B)
    (first : ℕ) (none : A) (list : List A) (n : ℕ) : Type 0 where
  pub next : ℕ
  pub count : length list ≡ first + next
  pub met : HaveMet numbers n next
  pub each : (m i : ℕ) → i < n → IsFirstWith numbers m i
      → of i ≡ Some (show (slice_index_or list (first + m) none))

-- something is not there that is to be read off a first entry
pub record IsLacking {B : Type 0} (numbers : List (Option ℕ)) (of : ℕ → Option B) : Type 0 where
  pub number : ℕ
  pub at : ℕ
  pub is_first : IsFirstWith numbers number at
  pub none : of at ≡ None

-- a list goes on another one
pub record GoesOn {A : Type 0} (none : A) (before after : List A) : Type 0 where
  pub long : length before ≤ length after
  pub kept : (i : ℕ) → i < length before
      → slice_index_or after i none ≡ slice_index_or before i none

-- the states of a region
abbrev pub state_read : ReaderState → ℕ → Option TreeState
state_read v c = state_of v.region v.lists v.first_state v.first_corner c

abbrev pub AreStatesTo : ReaderState → List TreeState → ℕ → Type 0
AreStatesTo v states n = AreReadTo v.lists.cells (state_read v)
    (λ s. s) v.first_state no_state states n

-- The corner types of a region: of the sides of the cells that were made, in their order.
abbrev pub tables_of : CornerType → List ℤ × Claim
tables_of g = (g.offsets, g.outer)

abbrev pub side_of : RegionState → ℕ → ℕ × ℕ
side_of r i = slice_index_or (sides_below (made r) r) i (0, 0)

abbrev pub corner_read : ReaderState → ℕ → Option (List ℤ × Claim)
corner_read v i = corner_of v.region v.lists v.first_corner
    (dart_of v.region (side_of v.region i).0 (side_of v.region i).1)

abbrev pub AreCornersTo : ReaderState → List CornerType → ℕ → Type 0
AreCornersTo v corners n =
    AreReadTo v.lists.corners (corner_read v) tables_of v.first_corner no_corner corners n

-- Off the first entry with each number is read what stands in a list, and there is no more.
pub record AreRead {A B : Type 0} (numbers : List (Option ℕ)) (count : ℕ) (of : ℕ → Option B)
    (show : A → B) (first : ℕ) (none : A) (list : List A) : Type 0 where
  pub long : length list ≡ first + count
  pub each : (m i : ℕ) → IsFirstWith numbers m i
      → of i ≡ Some (show (slice_index_or list (first + m) none))

abbrev pub AreStates : ReaderState → List TreeState → Type 0
AreStates v states =
    AreRead v.lists.cells v.lists.cell_count (state_read v) (λ s. s) v.first_state no_state states

abbrev pub AreCorners : ReaderState → List CornerType → Type 0
AreCorners v corners =
    AreRead v.lists.corners v.lists.corner_count (corner_read v) tables_of v.first_corner
    no_corner corners
