-- The laws of the tree of accepted rules, put together.
use Rattle.std.proofs.Common.{ap}
use Rattle.tree_model.specs.Automata.{root_at}
use Rattle.tree_model.specs.Positions.{Position, IsPosition, mark_of_rule}
use Rattle.tree_model.proofs.Rings.{names_below, ring_is}
use Rattle.tree_laws.specs.Laws.{OfEachTree, LeftSidesAreMatched, RightSidesAreMatched}
use Rattle.tree_laws.specs.Laws.{AcrossIsOne, AcrossIsBack, AcrossIsPartner, AcrossIsNear, CornersClose}
use Rattle.tree_laws.specs.Laws.{WalksArrive, WeightStays, WeightFalls, WeightIsBounded}
use Rattle.tree_laws.specs.Laws.{WalksHaveOnePlace, PlacesTellRelated, NamesTellTiles}
use Rattle.tree_laws.specs.Laws.{PlacesTellTypes, StatesTellKinds, DepthIsDistance}
use Rattle.tree_laws.specs.Laws.{PlacesTellDistance, DistanceIsDepth, NamesSpellShortestWays}
use Rattle.tree_laws.specs.Laws.{DistanceOnwards, RingsAreAtDistance, RingsAreWhole}
use Rattle.tree_laws.specs.Laws.{RingsHavePlaces, RingsExist, RingsCountTiles, NamesAreApart}
use Rattle.tree_laws.proofs.TreePlane.{tree_land, plane}
use Rattle.tree_laws.proofs.Falls.{stays, falls_left, falls_right, bounded_left, bounded_right}
use Rattle.tree_laws.proofs.Closure.{left_matched, one_right, right_matched, one_left, across, across_same, across_back, across_types, round_corner}
use Rattle.tree_laws.proofs.Contour.{arrives}
use Rattle.tree_laws.proofs.Places.{leads_place, place_leads, one_place, place_same, places_related, places_same_tile, place_type, place_kind}
use Rattle.tree_laws.proofs.Levels.{across_near, level}
use Rattle.tree_laws.proofs.Shortest.{distance_behind}
use Rattle.tree_laws.proofs.Between.{distance_by_place, distance_by_name, shortest_way}
use Rattle.tree_laws.proofs.RingTiles.{ring_distance, distance_ring, ring_counts, ring_whole, ring_apart}

pub left_sides : OfEachTree LeftSidesAreMatched
left_sides kinds a k valid ok known = record { some = left_matched kinds a k valid ok known; one = one_right kinds a k valid ok known }

pub right_sides : OfEachTree RightSidesAreMatched
right_sides kinds a k valid ok known = record { some = right_matched kinds a k valid ok known; one = λ x y z. one_left kinds a k valid ok known x z y }

pub across_one : OfEachTree AcrossIsOne
across_one kinds a k valid ok known = record { some = across kinds a k valid ok known; one = across_same kinds a k valid ok known }

pub across_is_back : OfEachTree AcrossIsBack
across_is_back = across_back

pub across_partner : OfEachTree AcrossIsPartner
across_partner = across_types

pub across_is_near : OfEachTree AcrossIsNear
across_is_near kinds a k valid ok known p q h x = across_near kinds a k valid ok known p q h x

pub corners_close : OfEachTree CornersClose
corners_close = round_corner

pub walks_arrive : OfEachTree WalksArrive
walks_arrive = arrives

pub weight_stays : OfEachTree WeightStays
weight_stays kinds a k valid ok known = stays Position (IsPosition kinds a k) (tree_land kinds a k) (plane kinds a k valid ok known)

pub weight_falls : OfEachTree WeightFalls
weight_falls kinds a k valid ok known = record {
  left = λ p h e. falls_left Position (IsPosition kinds a k) (tree_land kinds a k) (plane kinds a k valid ok known) p h (ap mark_of_rule e);
  right = λ p h e. falls_right Position (IsPosition kinds a k) (tree_land kinds a k) (plane kinds a k valid ok known) p h (ap mark_of_rule e);
}

pub weight_bounded : OfEachTree WeightIsBounded
weight_bounded kinds a k valid ok known = record {
  left = λ p h e. bounded_left Position (IsPosition kinds a k) (tree_land kinds a k) (plane kinds a k valid ok known) p h (ap mark_of_rule e);
  right = λ p h e. bounded_right Position (IsPosition kinds a k) (tree_land kinds a k) (plane kinds a k valid ok known) p h (ap mark_of_rule e);
}

pub walks_one_place : OfEachTree WalksHaveOnePlace
walks_one_place kinds a k valid ok known u = record {
  some = let o = one_place kinds a k valid ok known u in (o.0, o.1);
  one = place_same kinds a k valid ok known u;
  reached = λ p. (place_leads kinds a k valid ok known u p, leads_place kinds a k valid ok known u p);
}

pub places_tell : OfEachTree PlacesTellRelated
places_tell = places_related

pub names_tell : OfEachTree NamesTellTiles
names_tell = places_same_tile

pub place_types : OfEachTree PlacesTellTypes
place_types = place_type

pub state_kinds : OfEachTree StatesTellKinds
state_kinds = place_kind

pub depth_distance : OfEachTree DepthIsDistance
depth_distance = level

pub places_distance : OfEachTree PlacesTellDistance
places_distance = distance_by_place

pub distance_depth : OfEachTree DistanceIsDepth
distance_depth = distance_by_name

pub shortest_ways : OfEachTree NamesSpellShortestWays
shortest_ways = shortest_way

pub distance_onwards : OfEachTree DistanceOnwards
distance_onwards kinds a k valid ok known = distance_behind kinds a valid ok k known

pub rings_distance : OfEachTree RingsAreAtDistance
rings_distance = ring_distance

pub rings_whole : OfEachTree RingsAreWhole
rings_whole = ring_whole

pub rings_places : OfEachTree RingsHavePlaces
rings_places = distance_ring

pub rings_exist : OfEachTree RingsExist
rings_exist kinds a k valid ok known d = (names_below kinds a d (root_at a k), ring_is kinds a k d)

pub rings_count : OfEachTree RingsCountTiles
rings_count = ring_counts

pub names_apart : OfEachTree NamesAreApart
names_apart = ring_apart
