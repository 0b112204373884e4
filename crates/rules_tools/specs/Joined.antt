-- Sets of states, as links to lesser ones, and which states are linked by pairs.
use Rattle.std.specs.Prelude.{◌≡◌, ℕ, ◌<◌, List, slice_index_or, Option, Some, None}
use Rattle.std.specs.List.{sum_by}

-- x and y are linked: a chain of pairs, each in one of its two directions, leads from x to y
pub data Linked (E : ℕ → ℕ → Type 0) : ℕ → ℕ → Type 0 where
  here : {x y : ℕ} → x ≡ y → Linked E x y
  there : {x y : ℕ} (z : ℕ) → E x z → Linked E z y → Linked E x y
  back : {x y : ℕ} (z : ℕ) → E z x → Linked E z y → Linked E x y

-- what x is linked to directly: a lesser state, or None where x is the root of its set
abbrev pub link_at : List (Option ℕ) → ℕ → Option ℕ
link_at above x = slice_index_or above x None

-- each link leads to a lesser state, to which pairs link it
abbrev pub AreLinks : (ℕ → ℕ → Type 0) → List (Option ℕ) → Type 0
AreLinks E above = (x y : ℕ) → link_at above x ≡ Some y → (y < x) × Linked E x y

-- each link leads to a lesser state
abbrev pub AreFalling : List (Option ℕ) → Type 0
AreFalling above = (x y : ℕ) → link_at above x ≡ Some y → y < x

abbrev pub as_root : Option ℕ → ℕ
as_root None = 1
as_root (Some y) = 0

-- how many sets there are
abbrev pub set_count : List (Option ℕ) → ℕ
set_count above = sum_by as_root above
