-- The distance between two walks is the depth to which the second one leads in the tree whose root
-- is the tile of the first, and the name there spells a shortest way.
use Rattle.std.proofs.Common.{ℕ, ◌<◌, ◌↔◌, List, length, sym, subst}
use Rattle.tile_model.specs.declared.Letter.{Letter}
use Rattle.tile_model.specs.Tessellations.{TileKind}
use Rattle.tile_model.specs.Validity.{IsValid}
use Rattle.tile_model.specs.Walks.{type_of}
use Rattle.tile_model.specs.Relation.{IsDistance}
use Rattle.tile_model.proofs.Types.{walk_type}
use Rattle.tile_model.proofs.Distances.{one_distance}
use Rattle.tree_model.specs.Automata.{TreeAutomaton}
use Rattle.tree_model.specs.Conditions.{IsAccepted}
use Rattle.tree_model.specs.Positions.{Position}
use Rattle.tree_laws.specs.Laws.{rerooted, way_to, IsShortestWay, IsPlaceFrom, LeadsToDepth}
use Rattle.tree_laws.proofs.Places.{one_place, leads_place}
use Rattle.tree_laws.proofs.Levels.{start_type, distance}
use Rattle.tree_laws.proofs.Shortest.{way_leads, crossings_way}

module _ (kinds : List TileKind) (a : TreeAutomaton) (k : ℕ) (valid : IsValid kinds) (ok : IsAccepted kinds a) (known : k < length kinds) where
  -- the kind of a walk's type is one of the tessellation
  pub kind_known : (u : List Letter) → (type_of kinds (k, 0) u).0 < length kinds
  kind_known u = (walk_type kinds valid (k, 0) u (start_type kinds a valid ok k known)).0

  pub distance_by_place :
      (u w : List Letter) (p : Position) → IsPlaceFrom kinds a k u w p →
      IsDistance kinds (k, 0) u w (length p.name)
  distance_by_place = distance kinds a valid ok k known

  pub distance_by_name :
      (u w : List Letter) (n : ℕ) → IsDistance kinds (k, 0) u w n ↔ LeadsToDepth kinds a k u w n
  distance_by_name u w n = (there, back)
    where
      d : ℕ × ℕ
      d = type_of kinds (k, 0) u

      there : IsDistance kinds (k, 0) u w n → LeadsToDepth kinds a k u w n
      there h =
          let (p, place, leads) = one_place kinds a d.0 valid ok (kind_known u) (rerooted d u w) in
          let same = one_distance kinds (k, 0) u w (length p.name) n (distance_by_place u w p place) h in
          record { there = p; leads = leads; depth = same }

      back : LeadsToDepth kinds a k u w n → IsDistance kinds (k, 0) u w n
      back l =
          let place = leads_place kinds a d.0 valid ok (kind_known u) (rerooted d u w) l.there l.leads in
          subst (λ m. IsDistance kinds (k, 0) u w m) l.depth (distance_by_place u w l.there place)

  pub shortest_way :
      (u w : List Letter) (p : Position) → IsPlaceFrom kinds a k u w p →
      IsShortestWay kinds (k, 0) u w (way_to (type_of kinds (k, 0) u).1 p.name)
  shortest_way u w p h =
      let crosses = sym (crossings_way (type_of kinds (k, 0) u).1 p.name) in
      record {
        leads = way_leads kinds a valid ok k known u w p h;
        shortest = subst (λ n. IsDistance kinds (k, 0) u w n) crosses (distance_by_place u w p h);
      }
