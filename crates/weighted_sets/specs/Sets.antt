-- Sets of elements with places and depths, as forests of differences.
use Rattle.std.specs.Prelude.{◌≡◌, ◌<◌, ◌≤◌, ◌↔◌, ℕ, zero, suc, ◌+◌, ℤ, pos, ◌+ℤ◌, List, length, slice_index_or, nat_eq, if◌then◌else◌}
use Rattle.weighted_sets.specs.declared.shift.Shift.{Shift}

-- A link of an element to another one: its place and depth are those of that one and the shift.
pub record Link : Type 0 where
  pub above : ℕ
  pub shift : Shift

-- The links of all elements, and how many sets there are.
pub record Sets : Type 0 where
  pub links : List Link
  pub count : ℕ

abbrev pub no_link : Link
no_link = record { above = 0; shift = record { place = pos 0; depth = pos 0 } }

unfoldable pub link_at : List Link → ℕ → Link
link_at links x = slice_index_or links x no_link

-- An element is the root of its set where it is linked to itself.
abbrev pub IsRoot : List Link → ℕ → Type 0
IsRoot links x = (link_at links x).above ≡ x

-- 1 at a root, and 0 at others
unfoldable pub one_if_root : List Link → ℕ → ℕ
one_if_root links x = if nat_eq (link_at links x).above x then 1 else 0

-- how many of the first n elements are roots
unfoldable pub root_count : List Link → ℕ → ℕ
root_count links zero = 0
root_count links (suc n) = one_if_root links n + root_count links n

-- Element y lies at the place and the depth of x and the shift.
pub record AreApart (places depths : ℕ → ℤ) (x y : ℕ) (shift : Shift) : Type 0 where
  pub place : places y ≡ places x +ℤ shift.place
  pub depth : depths y ≡ depths x +ℤ shift.depth

-- Places and depths of all elements keep to all the differences that are known.
abbrev pub Keep : (places depths : ℕ → ℤ) → List Link → Type 0
Keep places depths links = (x : ℕ) → x < length links
    → AreApart places depths (link_at links x).above x (link_at links x).shift

-- What is known of y from x: it lies there in all places and depths that keep to the links.
unfoldable pub IsKnown : List Link → ℕ → ℕ → Shift → Type 0
IsKnown links x y shift =
    (places depths : ℕ → ℤ) → Keep places depths links → AreApart places depths x y shift

-- Of the elements the same differences are known.
unfoldable pub KeepSame : List Link → List Link → Type 0
KeepSame links others =
    (places depths : ℕ → ℤ) → Keep places depths links ↔ Keep places depths others

-- Of the elements the same differences are known, and that of y and x.
unfoldable pub KeepMore : List Link → List Link → ℕ → ℕ → Shift → Type 0
KeepMore links others x y shift =
    (places depths : ℕ → ℤ)
    → Keep places depths others ↔ (Keep places depths links × AreApart places depths x y shift)

-- No places and depths keep to the links where y lies so far from x.
unfoldable pub IsContradiction : List Link → ℕ → ℕ → Shift → Type 0
IsContradiction links x y shift =
    (places depths : ℕ → ℤ) → Keep places depths links → ¬ (AreApart places depths x y shift)

-- Roots stay roots.
unfoldable pub KeepRoots : List Link → List Link → Type 0
KeepRoots links others = (x : ℕ) → x < length links → IsRoot links x → IsRoot others x

-- No link leads to a later element, roots are not apart from themselves, and there are as many sets
-- as roots.
pub record AreSets (s : Sets) : Type 0 where
  pub before : (x : ℕ) → x < length s.links → (link_at s.links x).above ≤ x
  pub place : (x : ℕ) → x < length s.links → IsRoot s.links x
      → (link_at s.links x).shift.place ≡ pos 0
  pub depth : (x : ℕ) → x < length s.links → IsRoot s.links x
      → (link_at s.links x).shift.depth ≡ pos 0
  pub count : s.count ≡ root_count s.links (length s.links)
