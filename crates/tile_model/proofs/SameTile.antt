-- Walks at the same tile: an equivalence, kept before a walk; there is a way from each tile to each.
use Rattle.std.proofs.Common.{◌≡◌, ℕ, zero, suc, ◌+◌, ◌-◌, ◌<◌, ◌≤◌, ◌⊎◌, inl, inr, List, [], ◌++◌, replicate, sym, ap, ◌∙◌, subst, arith, append_assoc, append-nil}
use Rattle.std.proofs.lemmas.Bool.{cases_lt}
use Rattle.std.proofs.lemmas.List.{replicate-append-replicate}
use Rattle.tile_model.specs.declared.Letter.{Letter}
use Rattle.tile_model.specs.declared.Letter.TheVariants.{L}
use Rattle.tile_model.specs.Tessellations.{TileKind, IsType, sides}
use Rattle.tile_model.specs.Validity.{IsValid}
use Rattle.tile_model.specs.Walks.{type_of, inverse}
use Rattle.tile_model.specs.Relation.{full_turn, AreRelated, AreAtSameTile}
use Rattle.tile_model.proofs.Types.{type_append, sides_lefts, walk_type}
use Rattle.tile_model.proofs.Relations.{related_equal, related_same, related_back, related_on, related_behind, related_before, related_loop, related_type}
use Rattle.tile_model.proofs.Inverses.{there_back_on, related_cancel}

-- turns to the left behind a walk
lefts_on : (u : List Letter) (a b : ℕ) → (u ++ replicate a L) ++ replicate b L ≡ u ++ replicate (a + b) L
lefts_on u a b = append_assoc u (replicate a L) (replicate b L) ∙ ap (λ v. u ++ v) (replicate-append-replicate a b L)

module _ (kinds : List TileKind) where
  -- a full turn behind a walk
  pub turned_full : (d : ℕ × ℕ) (u : List Letter) → AreRelated kinds d (u ++ replicate (sides kinds (type_of kinds d u)) L) u
  turned_full d u =
      let n = sides kinds (type_of kinds d u) in
      let inserted : AreRelated kinds d (u ++ []) (u ++ (replicate n L ++ [])) = related_loop kinds u [] full_turn in
      let shorter : u ++ (replicate n L ++ []) ≡ u ++ replicate n L = ap (λ v. u ++ v) (append-nil (replicate n L)) in
      related_back kinds (related_on kinds (related_equal kinds (sym (append-nil u))) (related_on kinds inserted (related_equal kinds shorter)))

  -- turns past a full turn
  turned_over : (d : ℕ × ℕ) (u : List Letter) (a : ℕ) → AreRelated kinds d (u ++ replicate (sides kinds (type_of kinds d u) + a) L) (u ++ replicate a L)
  turned_over d u a =
      let n = sides kinds (type_of kinds d u) in
      related_on kinds (related_equal kinds (sym (lefts_on u n a))) (related_behind kinds (replicate a L) (turned_full d u))

module _ (kinds : List TileKind) (valid : IsValid kinds) where
  -- the tiles of two walks at the same tile have equally many sides
  pub same_sides : (d : ℕ × ℕ) {u w : List Letter} → AreAtSameTile kinds d u w → sides kinds (type_of kinds d w) ≡ sides kinds (type_of kinds d u)
  same_sides d {u} {w} same =
      let t = type_of kinds d u in
      ap (sides kinds) (sym (related_type kinds valid d same.related) ∙ type_append kinds d u (replicate same.turns L)) ∙ sides_lefts kinds t same.turns

  module _ (d : ℕ × ℕ) (is_type : IsType kinds d) where
    some_sides : (u : List Letter) → 0 < sides kinds (type_of kinds d u)
    some_sides u =
        let three = (valid.sides (type_of kinds d u).0 (walk_type kinds valid d u is_type).0).0 in
        omega (arith, three)

    -- related walks are at the same tile
    pub related_same_tile : {u w : List Letter} → AreRelated kinds d u w → AreAtSameTile kinds d u w
    related_same_tile {u} {w} r = record { turns = 0; fewer = some_sides u; related = related_on kinds (related_equal kinds (append-nil u)) r }

    -- an equivalence
    pub same_tile_same : (u : List Letter) → AreAtSameTile kinds d u u
    same_tile_same u = related_same_tile (related_same kinds u)

    pub same_tile_back : {u w : List Letter} → AreAtSameTile kinds d u w → AreAtSameTile kinds d w u
    same_tile_back {u} {w} same = go same.turns same.fewer same.related
      where
        go : (a : ℕ) → a < sides kinds (type_of kinds d u) → AreRelated kinds d (u ++ replicate a L) w → AreAtSameTile kinds d w u
        go zero h r = related_same_tile (related_back kinds (related_on kinds (related_equal kinds (sym (append-nil u))) r))
        go (suc a) h r =
            let n = sides kinds (type_of kinds d u) in
            let b = n - suc a in
            let wide : sides kinds (type_of kinds d w) ≡ n = same_sides d (record { turns = suc a; fewer = h; related = r }) in
            let full : suc a + b ≡ n = omega (arith, h) in
            let onward : AreRelated kinds d (w ++ replicate b L) ((u ++ replicate (suc a) L) ++ replicate b L) = related_behind kinds (replicate b L) (related_back kinds r) in
            let round : (u ++ replicate (suc a) L) ++ replicate b L ≡ u ++ replicate n L = lefts_on u (suc a) b ∙ ap (λ m. u ++ replicate m L) full in
            record { turns = b; fewer = omega (arith, h, wide); related = related_on kinds onward (related_on kinds (related_equal kinds round) (turned_full kinds d u)) }

    pub same_tile_on : {u v w : List Letter} → AreAtSameTile kinds d u v → AreAtSameTile kinds d v w → AreAtSameTile kinds d u w
    same_tile_on {u} {v} {w} first second = go (cases_lt (first.turns + second.turns) (sides kinds (type_of kinds d u)))
      where
        all : AreRelated kinds d (u ++ replicate (first.turns + second.turns) L) w
        all = related_on kinds (related_equal kinds (sym (lefts_on u first.turns second.turns))) (related_on kinds (related_behind kinds (replicate second.turns L) first.related) second.related)

        go : (first.turns + second.turns < sides kinds (type_of kinds d u)) ⊎ (sides kinds (type_of kinds d u) ≤ first.turns + second.turns) → AreAtSameTile kinds d u w
        go (inl h) = record { turns = first.turns + second.turns; fewer = h; related = all }
        go (inr h) =
            let n = sides kinds (type_of kinds d u) in
            let a = first.turns + second.turns - n in
            let wide : sides kinds (type_of kinds d v) ≡ n = same_sides d first in
            let over : n + a ≡ first.turns + second.turns = omega (arith, h) in
            let turned : AreRelated kinds d (u ++ replicate (n + a) L) (u ++ replicate a L) = turned_over kinds d u a in
            record {
              turns = a;
              fewer = omega (arith, h, wide, first.fewer, second.fewer);
              related = related_on kinds (related_back kinds turned) (related_on kinds (related_equal kinds (ap (λ m. u ++ replicate m L) over)) all);
            }

    -- there is a way from the tile of u to the tile of w
    pub way_between : (u w : List Letter) → AreAtSameTile kinds d (u ++ (inverse u ++ w)) w
    way_between u w = related_same_tile (there_back_on kinds d u w)

  -- kept before a walk, which may be taken away
  pub same_tile_before : (d : ℕ × ℕ) (z : List Letter) {u w : List Letter} → AreAtSameTile kinds (type_of kinds d z) u w → AreAtSameTile kinds d (z ++ u) (z ++ w)
  same_tile_before d z {u} {w} same =
      record {
        turns = same.turns;
        fewer = subst (λ t. same.turns < sides kinds t) (sym (type_append kinds d z u)) same.fewer;
        related = related_on kinds (related_equal kinds (append_assoc z u (replicate same.turns L))) (related_before kinds z same.related);
      }

  pub same_tile_cancel : (d : ℕ × ℕ) (z : List Letter) {u w : List Letter} → AreAtSameTile kinds d (z ++ u) (z ++ w) → AreAtSameTile kinds (type_of kinds d z) u w
  same_tile_cancel d z {u} {w} same =
      record {
        turns = same.turns;
        fewer = subst (λ t. same.turns < sides kinds t) (type_append kinds d z u) same.fewer;
        related = related_cancel kinds valid d z (related_on kinds (related_equal kinds (sym (append_assoc z u (replicate same.turns L)))) same.related);
      }
