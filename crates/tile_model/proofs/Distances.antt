-- The distance of two walks: one number, of the tiles alone, the same both ways, nothing at one tile only, and the triangle.
use Rattle.std.proofs.Common.{◌≡◌, ℕ, ◌+◌, ◌≤◌, List, [], ◌∷◌, ◌++◌, replicate, refl, sym, ap₂, ◌∙◌, subst, arith, zero-le, append_assoc, append-nil, le_antisymm}
use Rattle.tile_model.specs.declared.Letter.{Letter}
use Rattle.tile_model.specs.declared.Letter.TheVariants.{L, R, X}
use Rattle.tile_model.specs.Tessellations.{TileKind, IsType}
use Rattle.tile_model.specs.Validity.{IsValid}
use Rattle.tile_model.specs.Walks.{type_of, crossings, inverse}
use Rattle.tile_model.specs.Relation.{right_and_left, AreRelated, AreAtSameTile, IsDistance}
use Rattle.tile_model.proofs.Types.{walk_type}
use Rattle.tile_model.proofs.Relations.{related_equal, related_same, related_back, related_on, related_behind, related_before, loop_empty}
use Rattle.tile_model.proofs.Inverses.{crossings_append, crossings_inverse, crossings_lefts, inverse_cancels, there_back_on}
use Rattle.tile_model.proofs.SameTile.{related_same_tile, same_tile_back, same_tile_on, same_tile_before, same_tile_cancel}

-- a walk with n crossings from the tile of u to the tile of w
abbrev pub Way : List TileKind → ℕ × ℕ → List Letter → List Letter → ℕ → Type 0
Way kinds d u w n = (z : List Letter) × (crossings z ≡ n) × AreAtSameTile kinds d (u ++ z) w

-- where the same numbers of crossings lead from tile to tile, the distances are the same
same_ways : (kinds : List TileKind) (d e : ℕ × ℕ) (u w v x : List Letter) (n : ℕ) → ((m : ℕ) → Way kinds d u w m → Way kinds e v x m) → ((m : ℕ) → Way kinds e v x m → Way kinds d u w m) → IsDistance kinds d u w n → IsDistance kinds e v x n
same_ways kinds d e u w v x n there back distance =
    record {
      attained = there n distance.attained;
      least = λ z same. let way = back (crossings z) (z, refl, same) in subst (λ m. n ≤ m) way.1 (distance.least way.0 way.2);
    }

-- two walks have one distance
pub one_distance : (kinds : List TileKind) (d : ℕ × ℕ) (u w : List Letter) (m n : ℕ) → IsDistance kinds d u w m → IsDistance kinds d u w n → m ≡ n
one_distance kinds d u w m n first second =
    let below : m ≤ n = subst (λ c. m ≤ c) second.attained.1 (first.least second.attained.0 second.attained.2) in
    let above : n ≤ m = subst (λ c. n ≤ c) first.attained.1 (second.least first.attained.0 first.attained.2) in
    le_antisymm below above

module _ (kinds : List TileKind) (valid : IsValid kinds) where
  -- a common beginning is no matter
  pub distance_before : (d : ℕ × ℕ) (z u w : List Letter) (n : ℕ) → IsDistance kinds (type_of kinds d z) u w n → IsDistance kinds d (z ++ u) (z ++ w) n
  distance_before d z u w n =
      same_ways kinds (type_of kinds d z) d u w (z ++ u) (z ++ w) n
      (λ m way. (way.0, way.1, subst (λ v. AreAtSameTile kinds d v (z ++ w)) (sym (append_assoc z u way.0)) (same_tile_before kinds valid d z way.2)))
      (λ m way. (way.0, way.1, same_tile_cancel kinds valid d z (subst (λ v. AreAtSameTile kinds d v (z ++ w)) (append_assoc z u way.0) way.2)))

  pub distance_cancel : (d : ℕ × ℕ) (z u w : List Letter) (n : ℕ) → IsDistance kinds d (z ++ u) (z ++ w) n → IsDistance kinds (type_of kinds d z) u w n
  distance_cancel d z u w n =
      same_ways kinds d (type_of kinds d z) (z ++ u) (z ++ w) u w n
      (λ m way. (way.0, way.1, same_tile_cancel kinds valid d z (subst (λ v. AreAtSameTile kinds d v (z ++ w)) (append_assoc z u way.0) way.2)))
      (λ m way. (way.0, way.1, subst (λ v. AreAtSameTile kinds d v (z ++ w)) (sym (append_assoc z u way.0)) (same_tile_before kinds valid d z way.2)))

  module _ (d : ℕ × ℕ) (is_type : IsType kinds d) where
    -- the way back along a way, behind the turns at its end
    way_back : (u w : List Letter) (n : ℕ) → Way kinds d u w n → Way kinds d w u n
    way_back u w n way =
        let same = way.2 in
        let turns = replicate same.turns L in
        let z = way.0 ++ turns in
        let count : crossings (inverse z) ≡ n = crossings_inverse z ∙ crossings_append way.0 turns ∙ omega (arith, crossings_lefts same.turns, way.1) in
        let there : AreRelated kinds d (u ++ z) w = related_on kinds (related_equal kinds (sym (append_assoc u way.0 turns))) same.related in
        let back : AreRelated kinds d ((u ++ z) ++ inverse z) u = related_on kinds (related_equal kinds (append_assoc u z (inverse z))) (related_on kinds (related_before kinds u (inverse_cancels kinds (type_of kinds d u) z)) (related_equal kinds (append-nil u))) in
        (inverse z, count, related_same_tile kinds valid d is_type (related_on kinds (related_behind kinds (inverse z) (related_back kinds there)) back))

    -- a way may start from any walk at the tile
    way_from : (u v w : List Letter) (n : ℕ) → AreAtSameTile kinds d u v → Way kinds d u w n → Way kinds d v w n
    way_from u v w n same way =
        let turns = replicate same.turns L in
        let z = inverse turns ++ way.0 in
        let count : crossings z ≡ n = crossings_append (inverse turns) way.0 ∙ omega (arith, crossings_inverse turns, crossings_lefts same.turns, way.1) in
        let back : AreRelated kinds d ((u ++ turns) ++ z) (u ++ way.0) = related_on kinds (related_equal kinds (append_assoc u turns z)) (related_before kinds u (there_back_on kinds (type_of kinds d u) turns way.0)) in
        let moved : AreRelated kinds d (v ++ z) (u ++ way.0) = related_on kinds (related_behind kinds z (related_back kinds same.related)) back in
        (z, count, same_tile_on kinds valid d is_type (related_same_tile kinds valid d is_type moved) way.2)

    way_to : (u v w : List Letter) (n : ℕ) → AreAtSameTile kinds d v w → Way kinds d u v n → Way kinds d u w n
    way_to u v w n same way = (way.0, way.1, same_tile_on kinds valid d is_type way.2 same)

    -- a distance is one of tiles
    pub distance_from : (u v w : List Letter) (n : ℕ) → AreAtSameTile kinds d u v → IsDistance kinds d u w n → IsDistance kinds d v w n
    distance_from u v w n same = same_ways kinds d d u w v w n (λ m way. way_from u v w m same way) (λ m way. way_from v u w m (same_tile_back kinds valid d is_type same) way)

    pub distance_to : (u v w : List Letter) (n : ℕ) → AreAtSameTile kinds d v w → IsDistance kinds d u v n → IsDistance kinds d u w n
    distance_to u v w n same = same_ways kinds d d u v u w n (λ m way. way_to u v w m same way) (λ m way. way_to u w v m (same_tile_back kinds valid d is_type same) way)

    -- seen from where u leads: the way back along u, and then w
    pub distance_home : (u w : List Letter) (n : ℕ) → IsDistance kinds d u w n → IsDistance kinds (type_of kinds d u) [] (inverse u ++ w) n
    distance_home u w n distance =
        let same : AreAtSameTile kinds d w (u ++ (inverse u ++ w)) = related_same_tile kinds valid d is_type (related_back kinds (there_back_on kinds d u w)) in
        distance_cancel d u [] (inverse u ++ w) n (subst (λ v. IsDistance kinds d v (u ++ (inverse u ++ w)) n) (sym (append-nil u)) (distance_to u w (u ++ (inverse u ++ w)) n same distance))

    pub distance_away : (u w : List Letter) (n : ℕ) → IsDistance kinds (type_of kinds d u) [] (inverse u ++ w) n → IsDistance kinds d u w n
    distance_away u w n distance =
        let same : AreAtSameTile kinds d (u ++ (inverse u ++ w)) w = related_same_tile kinds valid d is_type (there_back_on kinds d u w) in
        distance_to u (u ++ (inverse u ++ w)) w n same (subst (λ v. IsDistance kinds d v (u ++ (inverse u ++ w)) n) (append-nil u) (distance_before d u [] (inverse u ++ w) n distance))

    -- the same both ways
    pub distance_back : (u w : List Letter) (n : ℕ) → IsDistance kinds d u w n → IsDistance kinds d w u n
    distance_back u w n = same_ways kinds d d u w w u n (way_back u w) (way_back w u)

    -- a turn stays at the tile, and so does a walk with no crossing
    turn_stays : (u : List Letter) → AreAtSameTile kinds d (u ++ L ∷ []) u
    turn_stays u =
        let three = (valid.sides (type_of kinds d u).0 (walk_type kinds valid d u is_type).0).0 in
        same_tile_back kinds valid d is_type (record { turns = 1; fewer = omega (arith, three); related = related_same kinds (u ++ L ∷ []) })

    turn_back_stays : (u : List Letter) → AreAtSameTile kinds d (u ++ R ∷ []) u
    turn_back_stays u =
        let three = (valid.sides (type_of kinds d (u ++ R ∷ [])).0 (walk_type kinds valid d (u ++ R ∷ []) is_type).0).0 in
        let nothing : AreRelated kinds d (u ++ R ∷ L ∷ []) (u ++ []) = related_before kinds u (loop_empty kinds right_and_left) in
        record {
          turns = 1;
          fewer = omega (arith, three);
          related = related_on kinds (related_equal kinds (append_assoc u (R ∷ []) (L ∷ []))) (related_on kinds nothing (related_equal kinds (append-nil u)));
        }

    pub turning_stays : (z u : List Letter) → crossings z ≡ 0 → AreAtSameTile kinds d (u ++ z) u
    turning_stays [] u none = related_same_tile kinds valid d is_type (related_equal kinds (append-nil u))
    turning_stays (L ∷ z) u none =
        let rest = turning_stays z (u ++ L ∷ []) none in
        same_tile_on kinds valid d is_type (subst (λ v. AreAtSameTile kinds d v (u ++ L ∷ [])) (append_assoc u (L ∷ []) z) rest) (turn_stays u)
    turning_stays (R ∷ z) u none =
        let rest = turning_stays z (u ++ R ∷ []) none in
        same_tile_on kinds valid d is_type (subst (λ v. AreAtSameTile kinds d v (u ++ R ∷ [])) (append_assoc u (R ∷ []) z) rest) (turn_back_stays u)
    turning_stays (X ∷ z) u none = let false : ⊥ = omega (arith, none) in absurd false

    -- nothing at one tile, and only there
    pub distance_zero : (u w : List Letter) → AreAtSameTile kinds d u w → IsDistance kinds d u w 0
    distance_zero u w same = record { attained = ([], refl, subst (λ v. AreAtSameTile kinds d v w) (sym (append-nil u)) same); least = λ z h. zero-le }

    pub zero_distance : (u w : List Letter) → IsDistance kinds d u w 0 → AreAtSameTile kinds d u w
    zero_distance u w distance =
        let way = distance.attained in
        same_tile_on kinds valid d is_type (same_tile_back kinds valid d is_type (turning_stays way.0 u way.1)) way.2

    -- the triangle
    pub triangle : (u v w : List Letter) (m n k : ℕ) → IsDistance kinds d u v m → IsDistance kinds d v w n → IsDistance kinds d u w k → k ≤ m + n
    triangle u v w m n k first second whole =
        let here = first.attained in
        let there = way_from v (u ++ here.0) w n (same_tile_back kinds valid d is_type here.2) second.attained in
        let count : crossings (here.0 ++ there.0) ≡ m + n = crossings_append here.0 there.0 ∙ ap₂ (λ a b. a + b) here.1 there.1 in
        subst (λ c. k ≤ c) count (whole.least (here.0 ++ there.0) (subst (λ y. AreAtSameTile kinds d y w) (append_assoc u here.0 there.0) there.2))
