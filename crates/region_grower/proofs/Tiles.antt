-- The tiles of a closed table are as many as its live cells.
use Rattle.std.proofs.Common.{◌≡◌, ℕ, ◌<◌, List, [], ◌++◌, length, map, get_or, replicate, sym, ap, ◌∙◌, subst, arith}
use Rattle.std.proofs.lemmas.List.{length-map, get_or-map, append-nil}
use Rattle.tile_model.specs.declared.Letter.{Letter}
use Rattle.tile_model.specs.declared.Letter.TheVariants.{L}
use Rattle.tile_model.specs.Tessellations.{kind_at, sides}
use Rattle.tile_model.specs.Relation.{AreRelated, AreAtSameTile}
use Rattle.tile_model.proofs.Relations.{related_equal, related_back, related_on}
use Rattle.coincidence.specs.Cells.{turn_at, IsLive, live_count, name}
use Rattle.coincidence.specs.Tables.{JoinTable, dart_walk, kind_of, atlas}
use Rattle.coincidence.specs.Joined.{IsTable}
use Rattle.region_grower.specs.Ways.{IsDart, IsJoined}
use Rattle.region_grower.specs.Corners.{AllClosed}
use Rattle.tile_model.specs.TileCounts.{walk_at}
use Rattle.region_grower.specs.Tiles.{HasTiles}
use Rattle.region_grower.proofs.Ways.{named_dart}
use Rattle.region_grower.proofs.Left.{divides_le}
use Rattle.region_grower.proofs.Count.{live_total}
use Rattle.region_grower.proofs.Listing.{listing}
use Rattle.region_grower.proofs.Model.{place, place_dart, origin_dart, related_place, walk_placed, dart_placed}

module _ (t : JoinTable) (table : IsTable t) (joined : (d : ℕ × ℕ) → IsDart t d → IsJoined t d) (closed : AllClosed t) where
  abbrev cell_walk : ℕ → List Letter
  cell_walk c = dart_walk t (c, 0)

  first_side : (c : ℕ) → IsLive t.cells c → IsDart t (c, 0)
  first_side c live = record { live = live; below = live }

  -- the walks to two cells at one tile are to one cell
  one_tile : (c e : ℕ) → IsLive t.cells c → IsLive t.cells e → AreAtSameTile t.kinds (kind_of t.origins 0, 0) (cell_walk c) (cell_walk e) → c ≡ e
  one_tile c e live live' same =
      let a = same.turns in
      let turned : cell_walk c ++ replicate a L ≡ dart_walk t (c, a) = ap (λ u. u ++ replicate a L) (append-nil ((atlas t).walk_to c)) in
      let named : AreRelated t.kinds (kind_of t.origins 0, 0) (dart_walk t (name t.cells (c, a))) (cell_walk e) = related_on t.kinds (related_back t.kinds (table.related_name (c, a)).related) (related_on t.kinds (related_equal t.kinds (sym turned)) same.related) in
      let places = related_place t table joined closed named in
      let first = dart_placed t table joined closed (name t.cells (c, a)) (named_dart t table (c, a)) in
      let second = dart_placed t table joined closed (e, 0) (first_side e live') in
      sym (ap (λ p. p.0) (table.name_live c a live)) ∙ ap (λ p. p.0) (sym first ∙ (places ∙ second))

  -- every walk is at the tile of the cell that it leads to
  some_tile : (w : List Letter) → (c : ℕ) × IsLive t.cells c × AreAtSameTile t.kinds (kind_of t.origins 0, 0) (cell_walk c) w
  some_tile w =
      let d = place t table joined closed (0, 0) w in
      let is_dart = place_dart t table joined closed (0, 0) w (origin_dart t table joined closed) in
      let made = table.live_made d.0 is_dart.live in
      let kind = table.kinds_there d.0 made in
      let wide = table.valid.sides (kind_of t.origins d.0) kind in
      let short = divides_le (kind_at t.kinds (kind_of t.origins d.0)).sides (turn_at t.cells d.0) (let three = wide.0 in omega (arith, three)) (table.turns d.0 is_dart.live) in
      let below = is_dart.below in
      let type = table.walk_type (d.0, 0) made in
      let turned : cell_walk d.0 ++ replicate d.1 L ≡ dart_walk t d = ap (λ u. u ++ replicate d.1 L) (append-nil ((atlas t).walk_to d.0)) in (
        d.0,
        is_dart.live,
        record {
          turns = d.1;
          fewer = subst (λ e. d.1 < sides t.kinds e) (sym type) (omega (arith, below, short));
          related = related_on t.kinds (related_equal t.kinds turned) (walk_placed t table joined closed w);
        },
      )

  pub closed_tiles : HasTiles t.kinds (kind_of t.origins 0, 0) (live_count t.cells)
  closed_tiles =
      let list = listing t.cells (length t.cells) in
      let xs = list.0 in
      let h = list.1 in
      let walks = map cell_walk xs in
      let n : length xs ≡ live_count t.cells = h.count ∙ sym (live_total t.cells) in
      let at : (i : ℕ) → i < length xs → walk_at walks i ≡ cell_walk (get_or xs i 0) = λ i there. get_or-map cell_walk xs i 0 [] there in
      record {
        walks = walks;
        count = length-map xs cell_walk ∙ n;
        of_sort = λ i there. tt;
        whole = λ w _.
            let tile = some_tile w in
            let made = table.live_made tile.0 tile.1 in
            let found = h.found tile.0 (omega (arith, made, table.count)) tile.1 in
            (found.0, omega (arith, found.1, n), subst (λ u. AreAtSameTile t.kinds (kind_of t.origins 0, 0) u w) (sym (at found.0 found.1 ∙ ap cell_walk found.2)) tile.2);
        apart = λ i j low low' same.
            let there : i < length xs = omega (arith, low, n) in
            let there' : j < length xs = omega (arith, low', n) in
            let one = subst (λ u. AreAtSameTile t.kinds (kind_of t.origins 0, 0) u (cell_walk (get_or xs j 0))) (at i there) (subst (AreAtSameTile t.kinds (kind_of t.origins 0, 0) (walk_at walks i)) (at j there') same) in
            h.apart i j there there' (one_tile (get_or xs i 0) (get_or xs j 0) (h.live i there) (h.live j there') one);
      }
