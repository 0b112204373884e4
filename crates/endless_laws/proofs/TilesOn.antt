-- There is a tile at each distance from the root, and no number is that of the tiles.
use Rattle.std.proofs.Common.{◌≡◌, ℕ, suc, ◌<◌, ◌≤◌, List, [], length, ap, subst, arith}
use Rattle.tile_model.specs.Tessellations.{TileKind, IsType}
use Rattle.tile_model.specs.Validity.{IsValid}
use Rattle.tile_model.specs.Relation.{AreAtSameTile, IsDistance}
use Rattle.tile_model.specs.TileCounts.{walk_at}
use Rattle.tile_model.proofs.SameTile.{same_tile_back, same_tile_on}
use Rattle.tree_model.specs.Automata.{TreeAutomaton}
use Rattle.tree_model.specs.Conditions.{IsAccepted}
use Rattle.tree_model.specs.Names.{IsName, word, IsRing}
use Rattle.tree_model.proofs.Alike.{two_alike}
use Rattle.tree_model.proofs.Positions.{make_position}
use Rattle.tree_laws.specs.Laws.{OfEachTree}
use Rattle.tree_laws.proofs.Levels.{level}
use Rattle.tree_laws.proofs.RingTiles.{name_place, ring_apart}
use Rattle.endless_laws.specs.Laws.{NamesGoOn, RingsAreInhabited, DistancesAreReached, TilesNeverEnd, ClosedHaveNoRules, LeadToTiles}
use Rattle.endless_laws.proofs.NamesOn.{names_go_on}

module _ (kinds : List TileKind) (a : TreeAutomaton) (k : ℕ) (valid : IsValid kinds) (ok : IsAccepted kinds a) (known : k < length kinds) where
  abbrev named : ℕ → List ℕ
  named n = (names_go_on kinds a k valid ok known n).0

  is_name : (n : ℕ) → IsName kinds a k (named n)
  is_name n = (names_go_on kinds a k valid ok known n).1

  long : (n : ℕ) → length (named n) ≡ n
  long n = (names_go_on kinds a k valid ok known n).2

  inhabited : (d : ℕ) (ring : List (List ℕ)) → IsRing kinds a k d ring → 1 ≤ length ring
  inhabited d ring is =
      let (i, l, e) = (is.members (named d)).1 (is_name d, long d) in
      omega (arith, l)

  reached : (d : ℕ) → IsDistance kinds (k, 0) [] (word (named d)) d
  reached d = subst (λ n. IsDistance kinds (k, 0) [] (word (named d)) n) (long d) (level kinds a k valid ok known (word (named d)) (make_position (named d) 0) (name_place kinds a k valid ok known (named d) (is_name d)))

  never_end : (n : ℕ) → ¬ (LeadToTiles kinds k n)
  never_end n tiles = go (two_alike at n (suc n) (omega arith) (λ i l. (tiles.whole (word (named i)) tt).1))
    where
      at : ℕ → ℕ
      at i = (tiles.whole (word (named i)) tt).0

      same : (i : ℕ) → AreAtSameTile kinds (k, 0) (walk_at tiles.walks (at i)) (word (named i))
      same i = (tiles.whole (word (named i)) tt).2

      start : IsType kinds (k, 0)
      start = (known, (valid.repeat k known).positive)

      go : (i : ℕ) × (j : ℕ) × (i < j) × (j < suc n) × (at i ≡ at j) → ⊥
      go (i, j, less, within, e) =
          let one = subst (λ m. AreAtSameTile kinds (k, 0) (walk_at tiles.walks m) (word (named i))) e (same i) in
          let both = same_tile_on kinds valid (k, 0) start (same_tile_back kinds valid (k, 0) start one) (same j) in
          let names = ring_apart kinds a k valid ok known (named i) (named j) (is_name i) (is_name j) both in
          omega (arith, less, long i, long j, ap length names)

pub names_on : OfEachTree NamesGoOn
names_on kinds a k valid ok known = names_go_on kinds a k valid ok known

pub rings_inhabited : OfEachTree RingsAreInhabited
rings_inhabited kinds a k valid ok known = inhabited kinds a k valid ok known

pub distances_reached : OfEachTree DistancesAreReached
distances_reached kinds a k valid ok known = λ d. (word (named kinds a k valid ok known d), reached kinds a k valid ok known d)

pub tiles_on : OfEachTree TilesNeverEnd
tiles_on kinds a k valid ok known = never_end kinds a k valid ok known

pub closed_without : ClosedHaveNoRules
closed_without kinds k n valid known tiles a ok = never_end kinds a k valid ok known n tiles
