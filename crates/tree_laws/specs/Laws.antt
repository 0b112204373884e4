-- What closure means for the tree of accepted rules. Each law speaks of every tessellation, of all
-- rules that are accepted for it, and of every position of the infinite tree of each kind.
use Rattle.std.specs.Prelude.{◌≡◌, ◌↔◌, ℕ, suc, ◌<◌, ◌≤◌, Bool, List, [], ◌∷◌, ◌++◌, length, replicate, Contains, ℤ, pos, ◌+ℤ◌, ◌-ℤ◌, ◌*ℤ◌, ◌<ℤ◌, ◌≤ℤ◌}
use Rattle.tile_model.specs.declared.Letter.{Letter}
use Rattle.tile_model.specs.declared.Letter.TheVariants.{L, R, X}
use Rattle.tile_model.specs.Tessellations.{TileKind, cross, valence}
use Rattle.tile_model.specs.Validity.{IsValid}
use Rattle.tile_model.specs.Walks.{type_of, crossings, inverse, times}
use Rattle.tile_model.specs.Relation.{AreRelated, AreAtSameTile, IsDistance}
use Rattle.tile_model.specs.TileCounts.{LieAway}
use Rattle.tree_model.specs.declared.Rule.TheVariants.{Left, Right}
use Rattle.tree_model.specs.Automata.{TreeAutomaton, state_at, offset}
use Rattle.tree_model.specs.Conditions.{IsAccepted}
use Rattle.tree_model.specs.Contours.{Tree, Opens}
use Rattle.tree_model.specs.Names.{IsName, IsRing, state_of, word}
use Rattle.tree_model.specs.Positions.{Position, IsPosition, root, turn_left, rule_of, claim_of, type_of_side, hop, mark, MatchesLeftwards, LiesAcross, Leads}
use Rattle.tree_model.specs.Places.{IsPlace}
use Rattle.tree_laws.specs.Ranks.{derived_rank, corner_count}
use Rattle.tree_laws.specs.Directions.{mark_towards, Arrives}

-- of the tree of each kind, for all rules that are accepted
abbrev pub OfEachTree : (List TileKind → TreeAutomaton → ℕ → Type 0) → Type 0
OfEachTree P =
    (kinds : List TileKind) (a : TreeAutomaton) (k : ℕ) →
    IsValid kinds → IsAccepted kinds a → k < length kinds → P kinds a k

-- From a tile with the type d that the walk u leads to: the turns from side 0 of its kind to the
-- side that u faces, the way back along u, and then the walk w. In the tree of that kind, whose
-- root is the tile of u, this leads to the tile of w.
abbrev pub rerooted : ℕ × ℕ → List Letter → List Letter → List Letter
rerooted d u w = replicate d.1 L ++ (inverse u ++ w)

-- From a side of residue s, as that of the root: nothing where the name is empty, else the turns
-- back to side 0, and the word of the name.
abbrev pub way_to : ℕ → List ℕ → List Letter
way_to s [] = []
way_to s (i ∷ name) = replicate s R ++ word (i ∷ name)

-- The walk z is a shortest one from the tile of u to the tile of w.
pub record IsShortestWay (kinds : List TileKind) (d : ℕ × ℕ) (u w z : List Letter) : Type 0 where
  pub leads : AreAtSameTile kinds d (u ++ z) w
  pub shortest : IsDistance kinds d u w (crossings z)

module _ (kinds : List TileKind) (a : TreeAutomaton) (k : ℕ) where
  abbrev There : Position → Type 0
  There = IsPosition kinds a k

  -- Each Left side is matched with exactly one Right side.
  pub record LeftSidesAreMatched : Type 0 where
    pub some :
        (x : Position) → There x → rule_of kinds a k x ≡ Left →
        (y : Position) × There y × MatchesLeftwards kinds a k x y
    pub one :
        (x y z : Position) → MatchesLeftwards kinds a k x y → MatchesLeftwards kinds a k x z → y ≡ z

  -- Each Right side is matched with exactly one Left side.
  pub record RightSidesAreMatched : Type 0 where
    pub some :
        (y : Position) → There y → rule_of kinds a k y ≡ Right →
        (x : Position) × There x × MatchesLeftwards kinds a k x y
    pub one :
        (x y z : Position) → There x → There z →
        MatchesLeftwards kinds a k x y → MatchesLeftwards kinds a k z y → x ≡ z

  -- exactly one position lies across each position
  pub record AcrossIsOne : Type 0 where
    pub some : (p : Position) → There p → (q : Position) × There q × LiesAcross kinds a k p q
    pub one : (p q r : Position) → LiesAcross kinds a k p q → LiesAcross kinds a k p r → q ≡ r

  -- what lies across a position has that position across it
  abbrev pub AcrossIsBack : Type 0
  AcrossIsBack = (p q : Position) → There p → LiesAcross kinds a k p q → LiesAcross kinds a k q p

  -- their types are partners
  abbrev pub AcrossIsPartner : Type 0
  AcrossIsPartner =
      (p q : Position) → There p → LiesAcross kinds a k p q →
      type_of_side kinds a k q ≡ cross kinds (type_of_side kinds a k p)

  -- and their depths differ by one at most
  abbrev pub AcrossIsNear : Type 0
  AcrossIsNear =
      (p q : Position) → There p → LiesAcross kinds a k p q → length q.name ≤ suc (length p.name)

  -- LX, as often as the valence, leads from each position back to it
  abbrev pub CornersClose : Type 0
  CornersClose =
      (p : Position) → There p →
      Leads kinds a k p (times (valence kinds (type_of_side kinds a k p)) (L ∷ X ∷ [])) p

  -- The walk along the contour, from a side that opens a bracket in its direction, stops at what
  -- lies across.
  abbrev pub WalksArrive : Type 0
  WalksArrive =
      (leftwards : Bool) (p : Position) → There p → mark_towards kinds a k leftwards p ≡ Opens →
      (q : Position) × Arrives kinds a k leftwards p q

  -- the depth of the first tile of the corner at the left end of a side
  abbrev pub first_depth : Position → ℤ
  first_depth p =
      pos (length p.name) -ℤ offset a (claim_of kinds a k p).corner (claim_of kinds a k p).place

  -- The weight of the corner at the left end of a side: the number of corner types times the depth
  -- of its first tile, and the rank of its type.
  abbrev pub weight : Position → ℤ
  weight p =
      (pos (corner_count a) *ℤ first_depth p) +ℤ pos (derived_rank a (claim_of kinds a k p).corner)

  -- It stays the same round the corner, across sides of the tree.
  abbrev pub WeightStays : Type 0
  WeightStays =
      (p : Position) → There p → mark kinds a k (turn_left kinds a k p) ≡ Tree →
      weight (hop kinds a k (turn_left kinds a k p)) ≡ weight p

  -- It falls at each nested side, whether one comes to its Left side or, the other way, to its
  -- Right side.
  pub record WeightFalls : Type 0 where
    pub left :
        (p : Position) → There p → rule_of kinds a k (turn_left kinds a k p) ≡ Left →
        weight (turn_left kinds a k p) <ℤ weight p
    pub right :
        (p : Position) → There p → rule_of kinds a k (turn_left kinds a k p) ≡ Right →
        weight p <ℤ weight (turn_left kinds a k p)

  -- It is at least 0 at a Left side, and at least minus the number of corner types before a Right
  -- side.
  pub record WeightIsBounded : Type 0 where
    pub left : (p : Position) → There p → rule_of kinds a k p ≡ Left → pos 0 ≤ℤ weight p
    pub right :
        (p : Position) → There p → rule_of kinds a k (turn_left kinds a k p) ≡ Right →
        (pos 0 -ℤ pos (corner_count a)) ≤ℤ weight p

  -- Each walk has exactly one place, the position to which it leads.
  pub record HasOnePlace (u : List Letter) : Type 0 where
    pub some : (p : Position) × IsPlace kinds a k u p
    pub one : (p q : Position) → IsPlace kinds a k u p → IsPlace kinds a k u q → p ≡ q
    pub reached : (p : Position) → IsPlace kinds a k u p ↔ Leads kinds a k root u p

  abbrev pub WalksHaveOnePlace : Type 0
  WalksHaveOnePlace = (u : List Letter) → HasOnePlace u

  -- two walks have one place exactly where they are related
  abbrev pub PlacesTellRelated : Type 0
  PlacesTellRelated =
      (u w : List Letter) (p q : Position) → IsPlace kinds a k u p → IsPlace kinds a k w q →
      (p ≡ q) ↔ AreRelated kinds (k, 0) u w

  -- and their places have one name exactly where they are at the same tile
  abbrev pub NamesTellTiles : Type 0
  NamesTellTiles =
      (u w : List Letter) (p q : Position) → IsPlace kinds a k u p → IsPlace kinds a k w q →
      (p.name ≡ q.name) ↔ AreAtSameTile kinds (k, 0) u w

  -- The side at the place of a walk has the walk's type.
  abbrev pub PlacesTellTypes : Type 0
  PlacesTellTypes =
      (u : List Letter) (p : Position) → IsPlace kinds a k u p →
      type_of_side kinds a k p ≡ type_of kinds (k, 0) u

  -- So the state there is one of the type's kind.
  abbrev pub StatesTellKinds : Type 0
  StatesTellKinds =
      (u : List Letter) (p : Position) → IsPlace kinds a k u p →
      (state_at a (state_of a k p.name)).kind ≡ (type_of kinds (k, 0) u).0

  -- The length of the name of a walk's place is its distance from the root.
  abbrev pub DepthIsDistance : Type 0
  DepthIsDistance =
      (u : List Letter) (p : Position) → IsPlace kinds a k u p →
      IsDistance kinds (k, 0) [] u (length p.name)

  -- p is, in the tree whose root is the tile of u, the place of the walk w from there.
  abbrev pub IsPlaceFrom : (u w : List Letter) → Position → Type 0
  IsPlaceFrom u w p =
      IsPlace kinds a (type_of kinds (k, 0) u).0 (rerooted (type_of kinds (k, 0) u) u w) p

  -- The length of its name is the distance between u and w.
  abbrev pub PlacesTellDistance : Type 0
  PlacesTellDistance =
      (u w : List Letter) (p : Position) → IsPlaceFrom u w p →
      IsDistance kinds (k, 0) u w (length p.name)

  -- The walk w leads, in the tree whose root is the tile of u, to a name of n sides.
  pub record LeadsToDepth (u w : List Letter) (n : ℕ) : Type 0 where
    pub there : Position
    pub leads :
        Leads kinds a (type_of kinds (k, 0) u).0 root (rerooted (type_of kinds (k, 0) u) u w) there
    pub depth : length there.name ≡ n

  -- It does exactly where n is the distance between u and w.
  abbrev pub DistanceIsDepth : Type 0
  DistanceIsDepth =
      (u w : List Letter) (n : ℕ) → IsDistance kinds (k, 0) u w n ↔ LeadsToDepth u w n

  -- The name of that place spells a shortest way from the tile of u to the tile of w, and the way
  -- crosses as often as the name is long.
  abbrev pub NamesSpellShortestWays : Type 0
  NamesSpellShortestWays =
      (u w : List Letter) (p : Position) → IsPlaceFrom u w p →
      IsShortestWay kinds (k, 0) u w (way_to (type_of kinds (k, 0) u).1 p.name)

  -- Where one walk begins with the other, the common beginning needs no way back: how far u and
  -- then v is from u is told by the place of v, begun at the side that u faces, in the tree whose
  -- root is the tile of u.
  abbrev pub DistanceOnwards : Type 0
  DistanceOnwards =
      (u v : List Letter) (p : Position) →
      IsPlace kinds a (type_of kinds (k, 0) u).0 (replicate (type_of kinds (k, 0) u).1 L ++ v) p →
      IsDistance kinds (k, 0) u (u ++ v) (length p.name)

  -- Each name of ring d is that of a tile at distance d from the root.
  abbrev pub RingsAreAtDistance : Type 0
  RingsAreAtDistance =
      (d : ℕ) (ring : List (List ℕ)) → IsRing kinds a k d ring →
      (name : List ℕ) → Contains ring name → IsDistance kinds (k, 0) [] (word name) d

  -- The tile of each walk at distance d has its name in ring d.
  abbrev pub RingsAreWhole : Type 0
  RingsAreWhole =
      (d : ℕ) (ring : List (List ℕ)) → IsRing kinds a k d ring →
      (u : List Letter) → IsDistance kinds (k, 0) [] u d →
      (name : List ℕ) × Contains ring name × AreAtSameTile kinds (k, 0) (word name) u

  -- It is the name of the walk's place.
  abbrev pub RingsHavePlaces : Type 0
  RingsHavePlaces =
      (d : ℕ) (ring : List (List ℕ)) → IsRing kinds a k d ring →
      (u : List Letter) (p : Position) → IsDistance kinds (k, 0) [] u d → IsPlace kinds a k u p →
      Contains ring p.name

  -- There is a ring d.
  abbrev pub RingsExist : Type 0
  RingsExist = (d : ℕ) → (ring : List (List ℕ)) × IsRing kinds a k d ring

  -- Exactly as many tiles lie at distance d as ring d has names.
  abbrev pub RingsCountTiles : Type 0
  RingsCountTiles =
      (d : ℕ) (ring : List (List ℕ)) → IsRing kinds a k d ring →
      LieAway kinds (k, 0) d (length ring)

  -- No two names are one tile.
  abbrev pub NamesAreApart : Type 0
  NamesAreApart =
      (m n : List ℕ) → IsName kinds a k m → IsName kinds a k n →
      AreAtSameTile kinds (k, 0) (word m) (word n) → m ≡ n
