-- What the definitions come to: laws of types, of related walks, of the way back, of walks at the
-- same tile, of distances and of numbers of tiles.
use Rattle.std.specs.Prelude.{◌≡◌, ℕ, ◌+◌, ◌%◌, ◌≤◌, ◌↔◌, List, [], ◌++◌, replicate}
use Rattle.tile_model.specs.declared.Letter.{Letter}
use Rattle.tile_model.specs.declared.Letter.TheVariants.{L}
use Rattle.tile_model.specs.Tessellations.{TileKind, kind_at, IsType, left, right, cross}
use Rattle.tile_model.specs.Validity.{IsValid}
use Rattle.tile_model.specs.Walks.{type_of, crossings, inverse}
use Rattle.tile_model.specs.Relation.{IsLoop, AreRelated, AreAtSameTile, IsDistance}
use Rattle.tile_model.specs.TileCounts.{LieAway}

-- Left and right undo each other, and crossing twice leads back.
pub record AreUndone (kinds : List TileKind) (d : ℕ × ℕ) : Type 0 where
  pub right_of_left : right kinds (left kinds d) ≡ d
  pub left_of_right : left kinds (right kinds d) ≡ d
  pub cross_of_cross : cross kinds (cross kinds d) ≡ d

abbrev pub MovesUndo : Type 0
MovesUndo = (kinds : List TileKind) → IsValid kinds → (d : ℕ × ℕ) → AreUndone kinds d

-- a walk leads from a type to a type
abbrev pub WalksKeepTypes : Type 0
WalksKeepTypes =
    (kinds : List TileKind) → IsValid kinds → (d : ℕ × ℕ) (walk : List Letter) → IsType kinds d
    → IsType kinds (type_of kinds d walk)

-- n letters L add n to the residue, modulo the repeat
abbrev pub TurnsAdd : Type 0
TurnsAdd = (kinds : List TileKind) → IsValid kinds → (k s n : ℕ) → IsType kinds (k, s)
    → type_of kinds (k, s) (replicate n L) ≡ (k, (s + n) % (kind_at kinds k).repeat)

-- each loop leads back to its type
abbrev pub LoopsLeadBack : Type 0
LoopsLeadBack =
    (kinds : List TileKind) → IsValid kinds → (d : ℕ × ℕ) (j : ℕ) (loop : List Letter)
    → IsLoop kinds d j loop → type_of kinds d loop ≡ d

-- Being related is an equivalence of the walks from a type.
pub record IsEquivalence (Related : List Letter → List Letter → Type 0) : Type 0 where
  pub same : (u : List Letter) → Related u u
  pub back : (u w : List Letter) → Related u w → Related w u
  pub on : (u v w : List Letter) → Related u v → Related v w → Related u w

abbrev pub RelatedIsEquivalence : Type 0
RelatedIsEquivalence = (kinds : List TileKind) (d : ℕ × ℕ) → IsEquivalence (AreRelated kinds d)

-- related walks stay related where the same letters follow both
abbrev pub RelatedBehind : Type 0
RelatedBehind =
    (kinds : List TileKind) (d : ℕ × ℕ) (u w z : List Letter) → AreRelated kinds d u w
    → AreRelated kinds d (u ++ z) (w ++ z)

-- related walks stay related where the same letters go before both
abbrev pub RelatedBefore : Type 0
RelatedBefore =
    (kinds : List TileKind) (d : ℕ × ℕ) (u w z : List Letter)
    → AreRelated kinds (type_of kinds d z) u w → AreRelated kinds d (z ++ u) (z ++ w)

-- and a common beginning may be taken away
abbrev pub BeginningsCancel : Type 0
BeginningsCancel =
    (kinds : List TileKind) → IsValid kinds → (d : ℕ × ℕ) (u w z : List Letter)
    → AreRelated kinds d (z ++ u) (z ++ w) → AreRelated kinds (type_of kinds d z) u w

-- related walks lead to one type
abbrev pub RelatedHaveOneType : Type 0
RelatedHaveOneType =
    (kinds : List TileKind) → IsValid kinds → (d : ℕ × ℕ) (u w : List Letter)
    → AreRelated kinds d u w → type_of kinds d u ≡ type_of kinds d w

-- a walk followed by the way back is related to the empty walk
abbrev pub InverseCancels : Type 0
InverseCancels =
    (kinds : List TileKind) (d : ℕ × ℕ) (w : List Letter) → AreRelated kinds d (w ++ inverse w) []

-- so is the way back, from where the walk leads, followed by the walk
abbrev pub InverseCancelsBack : Type 0
InverseCancelsBack =
    (kinds : List TileKind) (d : ℕ × ℕ) (w : List Letter)
    → AreRelated kinds (type_of kinds d w) (inverse w ++ w) []

-- the way back leads to the first type
abbrev pub InverseLeadsBack : Type 0
InverseLeadsBack =
    (kinds : List TileKind) → IsValid kinds → (d : ℕ × ℕ) (w : List Letter)
    → type_of kinds (type_of kinds d w) (inverse w) ≡ d

-- the ways back along related walks are related
abbrev pub InversesAreRelated : Type 0
InversesAreRelated =
    (kinds : List TileKind) → IsValid kinds → (d : ℕ × ℕ) (u w : List Letter)
    → AreRelated kinds d u w → AreRelated kinds (type_of kinds d u) (inverse u) (inverse w)

-- the way back crosses as often
abbrev pub InverseCrosses : Type 0
InverseCrosses = (w : List Letter) → crossings (inverse w) ≡ crossings w

-- being at the same tile is an equivalence of the walks from a type
abbrev pub SameTileIsEquivalence : Type 0
SameTileIsEquivalence =
    (kinds : List TileKind) → IsValid kinds → (d : ℕ × ℕ) → IsType kinds d
    → IsEquivalence (AreAtSameTile kinds d)

-- related walks are at the same tile
abbrev pub RelatedAtSameTile : Type 0
RelatedAtSameTile =
    (kinds : List TileKind) → IsValid kinds → (d : ℕ × ℕ) → IsType kinds d → (u w : List Letter)
    → AreRelated kinds d u w → AreAtSameTile kinds d u w

-- from each tile some walk leads to each: the way back, and the walk to the other tile
abbrev pub WayBetween : Type 0
WayBetween =
    (kinds : List TileKind) → IsValid kinds → (d : ℕ × ℕ) → IsType kinds d → (u w : List Letter)
    → AreAtSameTile kinds d (u ++ (inverse u ++ w)) w

-- a walk with no crossing stays at its tile
abbrev pub TurnsStay : Type 0
TurnsStay =
    (kinds : List TileKind) → IsValid kinds → (d : ℕ × ℕ) → IsType kinds d → (u z : List Letter)
    → crossings z ≡ 0 → AreAtSameTile kinds d (u ++ z) u

-- two walks have one distance
abbrev pub OneDistance : Type 0
OneDistance =
    (kinds : List TileKind) (d : ℕ × ℕ) (u w : List Letter) (m n : ℕ) → IsDistance kinds d u w m
    → IsDistance kinds d u w n → m ≡ n

-- it is a distance of tiles: each walk may be replaced by one at the same tile
abbrev pub DistanceOfTiles : Type 0
DistanceOfTiles =
    (kinds : List TileKind) → IsValid kinds → (d : ℕ × ℕ) → IsType kinds d
    → (u v w x : List Letter) (n : ℕ) → AreAtSameTile kinds d u v → AreAtSameTile kinds d w x
    → IsDistance kinds d u w n → IsDistance kinds d v x n

-- a distance is zero exactly at one tile
abbrev pub DistanceZero : Type 0
DistanceZero =
    (kinds : List TileKind) → IsValid kinds → (d : ℕ × ℕ) → IsType kinds d → (u w : List Letter)
    → IsDistance kinds d u w 0 ↔ AreAtSameTile kinds d u w

-- it is the same both ways
abbrev pub DistanceBack : Type 0
DistanceBack =
    (kinds : List TileKind) → IsValid kinds → (d : ℕ × ℕ) → IsType kinds d
    → (u w : List Letter) (n : ℕ) → IsDistance kinds d u w n → IsDistance kinds d w u n

-- and no detour is shorter
abbrev pub Triangle : Type 0
Triangle = (kinds : List TileKind) → IsValid kinds → (d : ℕ × ℕ) → IsType kinds d
    → (u v w : List Letter) (m n k : ℕ) → IsDistance kinds d u v m → IsDistance kinds d v w n
    → IsDistance kinds d u w k → k ≤ m + n

-- what two walks have in common at their beginning does not count
abbrev pub DistanceBehind : Type 0
DistanceBehind =
    (kinds : List TileKind) → IsValid kinds → (d : ℕ × ℕ) (u w z : List Letter) (n : ℕ)
    → IsDistance kinds (type_of kinds d z) u w n ↔ IsDistance kinds d (z ++ u) (z ++ w) n

-- the distance from u to w is that, at the type where u leads, from the empty walk to the way back
-- along u followed by w
abbrev pub DistanceHome : Type 0
DistanceHome =
    (kinds : List TileKind) → IsValid kinds → (d : ℕ × ℕ) → IsType kinds d
    → (u w : List Letter) (n : ℕ) → IsDistance kinds d u w n
    ↔ IsDistance kinds (type_of kinds d u) [] (inverse u ++ w) n

-- the tiles at one distance have one number
abbrev pub OneCount : Type 0
OneCount =
    (kinds : List TileKind) → IsValid kinds → (d : ℕ × ℕ) → IsType kinds d
    → (crossings m n : ℕ) → LieAway kinds d crossings m → LieAway kinds d crossings n → m ≡ n
