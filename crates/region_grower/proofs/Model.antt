-- A closed table is a model: each letter leads from dart to dart, each loop leads back, so related walks lead to one dart.
use Rattle.std.proofs.Common.{◌≡◌, ℕ, zero, suc, ◌+◌, ◌-◌, ◌%◌, ◌<◌, List, [], ◌∷◌, ◌++◌, length, replicate, Some, option_and_then, unwrap_or, refl, sym, ap, ◌∙◌, subst, arith, append_assoc, mod-lt, mod-eq_of_lt, add-zero}
use Rattle.std.proofs.Math.Nat.{mod-add-mod, add-mod-mod, add-mod_right, zero-mod}
use Rattle.std.proofs.lemmas.List.{append-nil, replicate_more}
use Rattle.tile_model.specs.declared.Letter.{Letter}
use Rattle.tile_model.specs.declared.Letter.TheVariants.{L, R, X}
use Rattle.tile_model.specs.Tessellations.{kind_at, IsType, left, right, cross}
use Rattle.tile_model.specs.Walks.{step, type_of, times}
use Rattle.tile_model.specs.Relation.{IsLoop, there_and_back, left_and_right, right_and_left, full_turn, round_corner, AreRelated}
use Rattle.tile_model.proofs.Types.{type_append, right_left, left_is}
use Rattle.tile_model.proofs.Relations.{HoldsOfLoops, related_holds, related_equal, related_back, related_on, related_behind, related_before, related_type, loop_empty}
use Rattle.coincidence.specs.Cells.{turn_at, name}
use Rattle.coincidence.specs.Tables.{JoinTable, joined_to, type_at, dart_walk, kind_of, atlas}
use Rattle.coincidence.specs.Joined.{IsTable}
use Rattle.region_grower.specs.Ways.{IsWay, starts, crosses, IsDart, IsJoined}
use Rattle.region_grower.specs.Corners.{left_of, further, rounds, valence_at, AllClosed}
use Rattle.region_grower.proofs.Ways.{dart_name, named_dart, over_dart, way_to}
use Rattle.region_grower.proofs.Left.{unnamed}
use Rattle.region_grower.proofs.Rounds.{round, times_last}

module _ (t : JoinTable) (table : IsTable t) (joined : (d : ℕ × ℕ) → IsDart t d → IsJoined t d) (closed : AllClosed t) where
  abbrev start : ℕ × ℕ
  start = (kind_of t.origins 0, 0)

  -- where a letter leads
  abbrev pub move : Letter → ℕ × ℕ → ℕ × ℕ
  move L d = name t.cells (left_of d)
  move R d = name t.cells (d.0, d.1 + (turn_at t.cells d.0 - 1))
  move X d = unwrap_or (joined_to t d) (0, 0)

  abbrev pub place : ℕ × ℕ → List Letter → ℕ × ℕ
  place d [] = d
  place d (x ∷ w) = place (move x d) w

  place_append : (d : ℕ × ℕ) (u w : List Letter) → place d (u ++ w) ≡ place (place d u) w
  place_append d [] w = refl
  place_append d (x ∷ u) w = place_append (move x d) u w

  over : (d : ℕ × ℕ) → IsDart t d → joined_to t d ≡ Some (move X d)
  over d is_dart =
      let h = joined d is_dart in
      h.joined ∙ ap (λ o. Some (unwrap_or o (0, 0))) (sym h.joined)

  move_dart : (x : Letter) (d : ℕ × ℕ) → IsDart t d → IsDart t (move x d)
  move_dart L d is_dart = named_dart t table (left_of d)
  move_dart R d is_dart = named_dart t table (d.0, d.1 + (turn_at t.cells d.0 - 1))
  move_dart X d is_dart = over_dart t table d (move X d) (over d is_dart)

  pub place_dart : (d : ℕ × ℕ) (w : List Letter) → IsDart t d → IsDart t (place d w)
  place_dart d [] is_dart = is_dart
  place_dart d (x ∷ w) is_dart = place_dart (move x d) w (move_dart x d is_dart)

  -- the letters undo each other
  name_of : (d : ℕ × ℕ) (i : ℕ) → IsDart t d → name t.cells (d.0, i) ≡ (d.0, i % turn_at t.cells d.0)
  name_of d i is_dart = table.name_live d.0 i is_dart.live

  left_right : (d : ℕ × ℕ) → IsDart t d → move R (move L d) ≡ d
  left_right d is_dart =
      let n = turn_at t.cells d.0 in
      let first : move L d ≡ (d.0, (d.1 + 1) % n) = name_of d (d.1 + 1) is_dart in
      let back : ((d.1 + 1) % n + (n - 1)) % n ≡ d.1 = mod-add-mod (d.1 + 1) n (n - 1) ∙ (ap (λ m. m % n) (let below = is_dart.below in omega (arith, below)) ∙ (add-mod_right d.1 n ∙ mod-eq_of_lt is_dart.below)) in
      ap (move R) first ∙ (name_of d ((d.1 + 1) % n + (n - 1)) is_dart ∙ ap (λ i. (d.0, i)) back)

  right_left' : (d : ℕ × ℕ) → IsDart t d → move L (move R d) ≡ d
  right_left' d is_dart =
      let n = turn_at t.cells d.0 in
      let first : move R d ≡ (d.0, (d.1 + (n - 1)) % n) = name_of d (d.1 + (n - 1)) is_dart in
      let back : ((d.1 + (n - 1)) % n + 1) % n ≡ d.1 = mod-add-mod (d.1 + (n - 1)) n 1 ∙ (ap (λ m. m % n) (let below = is_dart.below in omega (arith, below)) ∙ (add-mod_right d.1 n ∙ mod-eq_of_lt is_dart.below)) in
      ap (move L) first ∙ (name_of d ((d.1 + (n - 1)) % n + 1) is_dart ∙ ap (λ i. (d.0, i)) back)

  there_back : (d : ℕ × ℕ) → IsDart t d → move X (move X d) ≡ d
  there_back d is_dart =
      let back = table.back d (move X d) (over d is_dart) in
      ap (λ o. unwrap_or o (0, 0)) back ∙ dart_name t table d is_dart

  lefts : (n : ℕ) (d : ℕ × ℕ) → IsDart t d → place d (replicate n L) ≡ (d.0, (d.1 + n) % turn_at t.cells d.0)
  lefts zero d is_dart = let none : d.1 ≡ d.1 + 0 = omega arith in ap (λ i. (d.0, i)) (sym (mod-eq_of_lt is_dart.below) ∙ ap (λ i. i % turn_at t.cells d.0) none)
  lefts (suc n) d is_dart =
      let m = turn_at t.cells d.0 in
      let first : move L d ≡ (d.0, (d.1 + 1) % m) = name_of d (d.1 + 1) is_dart in
      let next : IsDart t (d.0, (d.1 + 1) % m) = subst (IsDart t) first (move_dart L d is_dart) in
      let sum : d.1 + 1 + n ≡ d.1 + suc n = omega arith in
      ap (λ e. place e (replicate n L)) first ∙ (lefts n (d.0, (d.1 + 1) % m) next ∙ ap (λ i. (d.0, i)) (mod-add-mod (d.1 + 1) m n ∙ ap (λ i. i % m) sum))

  -- round a corner, n times LX
  rounds_place : (n : ℕ) (d : ℕ × ℕ) → IsDart t d → rounds n t d ≡ Some (place d (times n round))
  rounds_place zero d is_dart = refl
  rounds_place (suc n) d is_dart =
      let f = place d (times n round) in
      let dart_f = place_dart d (times n round) is_dart in
      let left_f = move_dart L f dart_f in
      let here : joined_to t (left_of f) ≡ Some (move X (move L f)) = sym (unnamed t table (left_of f) dart_f.live) ∙ over (move L f) left_f in
      let last : place d (times (suc n) round) ≡ move X (move L f) = ap (place d) (times_last n) ∙ place_append d (times n round) round in
      ap (option_and_then (further t)) (rounds_place n d is_dart) ∙ (here ∙ ap Some (sym last))

  corner_home : (d : ℕ × ℕ) → IsDart t d → place d (times (valence_at t d) round) ≡ d
  corner_home d is_dart =
      let made = table.live_made d.0 is_dart.live in
      let kind = table.kinds_there d.0 made in
      let wide = (table.valid.valence (type_at t d) (dart_is_type d made)).0 in
      let n = valence_at t d - 1 in
      let all : suc n ≡ valence_at t d = omega (arith, wide) in
      let f = place d (times n round) in
      let come = rounds_place n d is_dart in
      let back : further t f ≡ Some (name t.cells d) = closed d is_dart f come in
      let whole : rounds (suc n) t d ≡ Some (place d (times (suc n) round)) = rounds_place (suc n) d is_dart in
      let on : rounds (suc n) t d ≡ further t f = ap (option_and_then (further t)) come in
      let home : place d (times (suc n) round) ≡ name t.cells d = cc (back, whole, on) in
      ap (λ m. place d (times m round)) (sym all) ∙ (home ∙ dart_name t table d is_dart)
    where
      dart_is_type : (d : ℕ × ℕ) → d.0 < length t.origins → IsType t.kinds (type_at t d)
      dart_is_type d made = let kind = table.kinds_there d.0 made in let some = (table.valid.repeat (kind_of t.origins d.0) kind).positive in (kind, mod-lt d.1 (omega (arith, some)))

  -- the types along a walk
  name_type : (d : ℕ × ℕ) → d.0 < length t.origins → type_at t (name t.cells d) ≡ type_at t d
  name_type d made =
      let h = table.named d in
      let there = h.earlier in
      sym (table.walk_type (name t.cells d) (omega (arith, there, made))) ∙ (sym (related_type t.kinds table.valid start (table.related_name d).related) ∙ table.walk_type d made)

  is_type : (d : ℕ × ℕ) → d.0 < length t.origins → IsType t.kinds (type_at t d)
  is_type d made = let kind = table.kinds_there d.0 made in let some = (table.valid.repeat (kind_of t.origins d.0) kind).positive in (kind, mod-lt d.1 (omega (arith, some)))

  made_of : (d : ℕ × ℕ) → IsDart t d → d.0 < length t.origins
  made_of d is_dart = table.live_made d.0 is_dart.live

  left_type : (d : ℕ × ℕ) → IsDart t d → type_at t (move L d) ≡ left t.kinds (type_at t d)
  left_type d is_dart =
      let made = made_of d is_dart in
      let repeat = (kind_at t.kinds (kind_of t.origins d.0)).repeat in
      name_type (left_of d) made ∙ (ap (λ s. (kind_of t.origins d.0, s)) (sym (mod-add-mod d.1 repeat 1)) ∙ sym (left_is t.kinds (type_at t d) (is_type d made)))

  move_type : (x : Letter) (d : ℕ × ℕ) → IsDart t d → type_at t (move x d) ≡ step t.kinds (type_at t d) x
  move_type L d is_dart = left_type d is_dart
  move_type R d is_dart =
      let f = move R d in
      let back = left_type f (move_dart R d is_dart) in
      sym (right_left t.kinds table.valid (type_at t f)) ∙ ap (right t.kinds) (sym back ∙ ap (type_at t) (right_left' d is_dart))
  move_type X d is_dart =
      let e = move X d in
      let related = table.sound.joined d e (over d is_dart) in
      sym (table.walk_type e (made_of e (move_dart X d is_dart))) ∙ (sym (related_type t.kinds table.valid start related) ∙ (type_append t.kinds start (dart_walk t d) (X ∷ []) ∙ ap (cross t.kinds) (table.walk_type d (made_of d is_dart))))

  place_type : (d : ℕ × ℕ) (w : List Letter) → IsDart t d → type_at t (place d w) ≡ type_of t.kinds (type_at t d) w
  place_type d [] is_dart = refl
  place_type d (x ∷ w) is_dart = place_type (move x d) w (move_dart x d is_dart) ∙ ap (λ e. type_of t.kinds e w) (move_type x d is_dart)

  -- each loop leads back
  loop_home : (d : ℕ × ℕ) {j : ℕ} {loop : List Letter} → IsDart t d → IsLoop t.kinds (type_at t d) j loop → place d loop ≡ d
  loop_home d is_dart there_and_back = there_back d is_dart
  loop_home d is_dart left_and_right = left_right d is_dart
  loop_home d is_dart right_and_left = right_left' d is_dart
  loop_home d is_dart full_turn =
      let m = turn_at t.cells d.0 in
      let n = (kind_at t.kinds (kind_of t.origins d.0)).sides in
      lefts n d is_dart ∙ ap (λ i. (d.0, i)) (sym (add-mod-mod d.1 n m) ∙ (ap (λ r. (d.1 + r) % m) (table.turns d.0 is_dart.live) ∙ (ap (λ i. i % m) (add-zero d.1) ∙ mod-eq_of_lt is_dart.below)))
  loop_home d is_dart round_corner = corner_home d is_dart

  abbrev pub origin : ℕ × ℕ
  origin = (0, 0)

  pub origin_dart : IsDart t origin
  origin_dart = record { live = table.first_live; below = table.first_live }

  origin_type : type_at t origin ≡ start
  origin_type = ap (λ s. (kind_of t.origins 0, s)) (zero-mod (kind_at t.kinds (kind_of t.origins 0)).repeat)

  -- related walks lead to one dart
  holds : HoldsOfLoops t.kinds start (λ u w. place origin u ≡ place origin w)
  holds = record {
    equal = λ u. refl;
    turns = λ u w e. sym e;
    joins = λ u v w e f. e ∙ f;
    inserted = λ before behind j loop is_loop.
        let d = place origin before in
        let dart_d = place_dart origin before origin_dart in
        let type : type_of t.kinds start before ≡ type_at t d = ap (λ e. type_of t.kinds e before) (sym origin_type) ∙ sym (place_type origin before origin_dart) in
        let home = loop_home d dart_d (subst (λ e. IsLoop t.kinds e j loop) type is_loop) in
        place_append origin before behind ∙ (ap (λ e. place e behind) (sym home) ∙ (sym (place_append d loop behind) ∙ sym (place_append origin before (loop ++ behind))));
  }

  pub related_place : {u w : List Letter} → AreRelated t.kinds start u w → place origin u ≡ place origin w
  related_place related = related_holds t.kinds (λ u w. place origin u ≡ place origin w) holds related

  -- the walk of the dart come to is related to the walk
  left_walk : (d : ℕ × ℕ) → IsDart t d → AreRelated t.kinds start (dart_walk t (move L d)) (dart_walk t d ++ L ∷ [])
  left_walk d is_dart =
      let w = (atlas t).walk_to d.0 in
      let turned : dart_walk t (left_of d) ≡ dart_walk t d ++ L ∷ [] = ap (λ u. w ++ u) (sym (replicate_more d.1 L)) ∙ sym (append_assoc w (replicate d.1 L) (L ∷ [])) in
      related_on t.kinds (related_back t.kinds (table.related_name (left_of d)).related) (related_equal t.kinds turned)

  move_walk : (x : Letter) (d : ℕ × ℕ) → IsDart t d → AreRelated t.kinds start (dart_walk t (move x d)) (dart_walk t d ++ x ∷ [])
  move_walk L d is_dart = left_walk d is_dart
  move_walk R d is_dart =
      let f = move R d in
      let back = left_walk f (move_dart R d is_dart) in
      let home : AreRelated t.kinds start (dart_walk t d) (dart_walk t f ++ L ∷ []) = related_on t.kinds (related_equal t.kinds (ap (dart_walk t) (sym (right_left' d is_dart)))) back in
      let undone : AreRelated t.kinds start (dart_walk t f ++ L ∷ R ∷ []) (dart_walk t f) = related_on t.kinds (related_before t.kinds (dart_walk t f) (loop_empty t.kinds left_and_right)) (related_equal t.kinds (append-nil (dart_walk t f))) in
      related_back t.kinds (related_on t.kinds (related_behind t.kinds (R ∷ []) home) (related_on t.kinds (related_equal t.kinds (append_assoc (dart_walk t f) (L ∷ []) (R ∷ []))) undone))
  move_walk X d is_dart = related_back t.kinds (table.sound.joined d (move X d) (over d is_dart))

  place_walk : (d : ℕ × ℕ) (w : List Letter) → IsDart t d → AreRelated t.kinds start (dart_walk t (place d w)) (dart_walk t d ++ w)
  place_walk d [] is_dart = related_equal t.kinds (sym (append-nil (dart_walk t d)))
  place_walk d (x ∷ w) is_dart =
      let rest = place_walk (move x d) w (move_dart x d is_dart) in
      related_on t.kinds rest (related_on t.kinds (related_behind t.kinds w (move_walk x d is_dart)) (related_equal t.kinds (append_assoc (dart_walk t d) (x ∷ []) w)))

  origin_walk : dart_walk t origin ≡ []
  origin_walk = ap (λ u. u ++ []) table.first_walk

  pub walk_placed : (w : List Letter) → AreRelated t.kinds start (dart_walk t (place origin w)) w
  walk_placed w = related_on t.kinds (place_walk origin w origin_dart) (related_equal t.kinds (ap (λ u. u ++ w) origin_walk))

  -- each dart is come to
  turned_to : (c i j : ℕ) (w : List Letter) → IsDart t (c, i) → IsDart t (c, j) → place origin w ≡ (c, j) → (v : List Letter) × (place origin v ≡ (c, i))
  turned_to c i j w dart_i dart_j at =
      let m = turn_at t.cells c in
      let k = i + (m - j) in
      let below = dart_j.below in
      let sum : j + k ≡ i + m = omega (arith, below) in
      (w ++ replicate k L, place_append origin w (replicate k L) ∙ (ap (λ d. place d (replicate k L)) at ∙ (lefts k (c, j) dart_j ∙ ap (λ s. (c, s)) (ap (λ s. s % m) sum ∙ (add-mod_right i m ∙ mod-eq_of_lt dart_i.below)))))

  come_to : {n c : ℕ} → IsWay t n c → (i : ℕ) → IsDart t (c, i) → (w : List Letter) × (place origin w ≡ (c, i))
  come_to starts i dart_i = turned_to 0 i 0 [] dart_i origin_dart refl
  come_to (crosses n a b way is) i dart_i =
      let live = (table.joined_name a b is).0 in
      let near = name t.cells a in
      let near_is : near ≡ (a.0, a.1 % turn_at t.cells a.0) = table.name_live a.0 a.1 live in
      let dart_near = subst (IsDart t) near_is (named_dart t table a) in
      let rest = come_to way (a.1 % turn_at t.cells a.0) dart_near in
      let at_near : joined_to t (a.0, a.1 % turn_at t.cells a.0) ≡ Some b = ap (joined_to t) (sym near_is) ∙ (unnamed t table a live ∙ is) in
      let at_b : place origin (rest.0 ++ X ∷ []) ≡ b = place_append origin rest.0 (X ∷ []) ∙ (ap (move X) rest.1 ∙ ap (λ o. unwrap_or o (0, 0)) at_near) in
      turned_to b.0 i b.1 (rest.0 ++ X ∷ []) dart_i (over_dart t table a b is) at_b

  -- and its walk leads there
  pub dart_placed : (d : ℕ × ℕ) → IsDart t d → place origin (dart_walk t d) ≡ d
  dart_placed d is_dart =
      let way = way_to t table d.0 is_dart.live in
      let come = come_to way.2 d.1 is_dart in
      let related = subst (λ e. AreRelated t.kinds start (dart_walk t e) come.0) come.1 (walk_placed come.0) in
      related_place related ∙ come.1
