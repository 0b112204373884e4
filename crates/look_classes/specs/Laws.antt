-- Laws: what the words of Places mean however long a contour is and however often one goes on, and
-- that numbers in order of first sight are unique.
use Rattle.std.specs.Prelude.{◌≡◌, ℕ, ◌<◌, ◌≤◌, ◌↔◌, Some, true}
use Rattle.region_grower.specs.Ways.{IsDart}
use Rattle.region_grower.specs.Regions.{RegionState}
use Rattle.region_grower.specs.Corners.{further, rounds, valence_at}
use Rattle.look_classes.specs.Places.{is_key, IsKeyEdge, back, placed}
use Rattle.look_classes.specs.Classes.{ClassLists, AreClasses}

-- A dart is at place 0 exactly where its side is the key edge of the corner at its left end.
abbrev pub AreKeyEdges : RegionState → Type 0
AreKeyEdges r = (d : ℕ × ℕ) → IsDart r.table d → (is_key r d ≡ true) ↔ IsKeyEdge r d

-- One tile back leads to a dart exactly where LX leads from it.
abbrev pub IsBackOfFurther : RegionState → Type 0
IsBackOfFurther r = (d e : ℕ × ℕ) → IsDart r.table d → IsDart r.table e
    → (back r e ≡ Some d) ↔ (further r.table d ≡ Some e)

-- LX, p times, leads from b, which is at place 0, to d; p is below the valence, and no less number
-- of LX leads from a dart at place 0 to d.
pub record IsPlaceOf (r : RegionState) (d : ℕ × ℕ) (p : ℕ) (b : ℕ × ℕ) : Type 0 where
  pub below : p < valence_at r.table d
  pub dart : IsDart r.table b
  pub key : is_key r b ≡ true
  pub leads : rounds p r.table b ≡ Some d
  pub least : (q : ℕ) (c : ℕ × ℕ) → IsDart r.table c → is_key r c ≡ true → rounds q r.table c
      ≡ Some d
      → p ≤ q

-- So are the place and the base of a dart.
abbrev pub ArePlaces : RegionState → Type 0
ArePlaces r = (d b : ℕ × ℕ) (p : ℕ) → IsDart r.table d → (placed r d ≡ Some (p, b))
    ↔ IsPlaceOf r d p b

-- The looks of a region to a horizon have no other numbers.
abbrev pub HasOneNumbering : RegionState → Type 0
HasOneNumbering r = (h : ℕ) (one other : ClassLists) → AreClasses h r one → AreClasses h r other
    → one ≡ other
