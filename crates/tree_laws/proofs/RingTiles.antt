-- The names of ring d are the tiles at distance d from the root, each once.
use Rattle.std.proofs.Common.{◌≡◌, ℕ, ◌<◌, ◌≤◌, ◌⊎◌, inl, inr, List, [], length, get_or, map, refl, sym, ap, ◌∙◌, subst, arith, append-nil}
use Rattle.std.specs.Prelude.{Contains}
use Rattle.std.proofs.lemmas.Bool.{cases_lt}
use Rattle.std.proofs.lemmas.List.{get_or-map, get_or_default, length-map}
use Rattle.std.proofs.lemmas.List.Elements.{Contains-get_or}
use Rattle.tile_model.specs.declared.Letter.{Letter}
use Rattle.tile_model.specs.Tessellations.{TileKind}
use Rattle.tile_model.specs.Validity.{IsValid}
use Rattle.tile_model.specs.Relation.{AreAtSameTile, IsDistance}
use Rattle.tile_model.specs.TileCounts.{walk_at, LieAway}
use Rattle.tile_model.proofs.Distances.{one_distance}
use Rattle.tree_model.specs.Automata.{TreeAutomaton, root_at}
use Rattle.tree_model.specs.Conditions.{IsAccepted}
use Rattle.tree_model.specs.Names.{IsName, IsBefore, state_of, word, IsRing}
use Rattle.tree_model.specs.Positions.{Position, IsPosition}
use Rattle.tree_model.specs.Places.{position_word, IsPlace}
use Rattle.tree_model.proofs.Names.{name_state}
use Rattle.tree_model.proofs.Rings.{before_itself}
use Rattle.tree_model.proofs.Positions.{make_position, some_sides}
use Rattle.tree_laws.proofs.Words.{word_leads}
use Rattle.tree_laws.proofs.Places.{one_place, leads_place, places_same_tile}
use Rattle.tree_laws.proofs.Levels.{level}

module _ (kinds : List TileKind) (a : TreeAutomaton) (k : ℕ) (valid : IsValid kinds) (ok : IsAccepted kinds a) (known : k < length kinds) where
  -- side 0 of a name's tile is the place of the name's word
  pub name_place : (name : List ℕ) → IsName kinds a k name → IsPlace kinds a k (word name) (make_position name 0)
  name_place name h =
      let s = name_state kinds a ok.c1 (root_at a k) name (ok.c1.root k known) h in
      let p : IsPosition kinds a k (make_position name 0) = record { name = h; side = omega (arith, some_sides kinds a k valid ok known (state_of a k name) s) } in
      subst (λ w. IsPlace kinds a k w (make_position name 0)) (append-nil (word name)) (leads_place kinds a k valid ok known (position_word (make_position name 0)) (make_position name 0) (word_leads kinds a k valid ok known (make_position name 0) p))

  -- each name of ring d is that of a tile at distance d
  pub ring_distance : (d : ℕ) (names : List (List ℕ)) → IsRing kinds a k d names → (name : List ℕ) → Contains names name → IsDistance kinds (k, 0) [] (word name) d
  ring_distance d names ring name m =
      let (h, e) = (ring.members name).0 m in
      subst (λ n. IsDistance kinds (k, 0) [] (word name) n) e (level kinds a k valid ok known (word name) (make_position name 0) (name_place name h))

  -- each walk at distance d has its name in ring d
  pub distance_ring : (d : ℕ) (names : List (List ℕ)) → IsRing kinds a k d names → (u : List Letter) (p : Position) → IsDistance kinds (k, 0) [] u d → IsPlace kinds a k u p → Contains names p.name
  distance_ring d names ring u p far place =
      let e = one_distance kinds (k, 0) [] u (length p.name) d (level kinds a k valid ok known u p place) far in
      (ring.members p.name).1 (place.position.name, e)

  -- so its tile is that of a name in ring d
  pub ring_whole :
      (d : ℕ) (names : List (List ℕ)) → IsRing kinds a k d names →
      (u : List Letter) → IsDistance kinds (k, 0) [] u d →
      (name : List ℕ) × Contains names name × AreAtSameTile kinds (k, 0) (word name) u
  ring_whole d names ring u far =
      let (p, place, leads) = one_place kinds a k valid ok known u in
      let first = name_place p.name place.position.name in
      let same = places_same_tile kinds a k valid ok known (word p.name) u (make_position p.name 0) p first place in
      (p.name, distance_ring d names ring u p far place, same.0 refl)

  -- and no two names are one tile
  pub ring_apart : (m n : List ℕ) → IsName kinds a k m → IsName kinds a k n → AreAtSameTile kinds (k, 0) (word m) (word n) → m ≡ n
  ring_apart m n h g same = (places_same_tile kinds a k valid ok known (word m) (word n) (make_position m 0) (make_position n 0) (name_place m h) (name_place n g)).1 same

  -- the words of the names of a ring lead to the tiles at its distance
  pub ring_counts : (d : ℕ) (ring : List (List ℕ)) → IsRing kinds a k d ring → LieAway kinds (k, 0) d (length ring)
  ring_counts d ring is = record { walks = map word ring; count = length-map ring word; of_sort = of_sort; whole = whole; apart = apart }
    where
      spelt : (i : ℕ) → i < length ring → walk_at (map word ring) i ≡ word (get_or ring i [])
      spelt i lt = get_or-map word ring i [] [] lt

      there : (i : ℕ) → i < length ring → Contains ring (get_or ring i [])
      there i lt = Contains-get_or ring i [] lt

      of_sort : (i : ℕ) → i < length ring → IsDistance kinds (k, 0) [] (walk_at (map word ring) i) d
      of_sort i lt = subst (λ w. IsDistance kinds (k, 0) [] w d) (sym (spelt i lt)) (ring_distance d ring is (get_or ring i []) (there i lt))

      whole : (w : List Letter) → IsDistance kinds (k, 0) [] w d → (i : ℕ) × (i < length ring) × AreAtSameTile kinds (k, 0) (walk_at (map word ring) i) w
      whole w far =
          let (name, member, same) = ring_whole d ring is w far in
          let (i, lt, e) = member in
          let here : get_or ring i [] ≡ name = get_or_default ring i [] name lt ∙ e in
          (i, lt, subst (λ v. AreAtSameTile kinds (k, 0) v w) (sym (spelt i lt ∙ ap word here)) same)

      one_name : (i j : ℕ) → i < length ring → j < length ring → AreAtSameTile kinds (k, 0) (walk_at (map word ring) i) (walk_at (map word ring) j) → get_or ring i [] ≡ get_or ring j []
      one_name i j lt less same =
          let h = (is.members (get_or ring i [])).0 (there i lt) in
          let g = (is.members (get_or ring j [])).0 (there j less) in
          ring_apart (get_or ring i []) (get_or ring j []) h.0 g.0
          (subst (λ v. AreAtSameTile kinds (k, 0) (word (get_or ring i [])) v) (spelt j less)
          (subst (λ v. AreAtSameTile kinds (k, 0) v (walk_at (map word ring) j)) (spelt i lt) same))

      apart : (i j : ℕ) → i < length ring → j < length ring → AreAtSameTile kinds (k, 0) (walk_at (map word ring) i) (walk_at (map word ring) j) → i ≡ j
      apart i j lt less same = decide (cases_lt i j) (cases_lt j i)
        where
          e : get_or ring i [] ≡ get_or ring j []
          e = one_name i j lt less same

          decide : (i < j) ⊎ (j ≤ i) → (j < i) ⊎ (i ≤ j) → i ≡ j
          decide (inl before) _ = absurd (before_itself (get_or ring i []) (subst (λ m. IsBefore (get_or ring i []) m) (sym e) (is.ordered i j [] before less)))
          decide (inr _) (inl after) = absurd (before_itself (get_or ring j []) (subst (λ m. IsBefore (get_or ring j []) m) e (is.ordered j i [] after lt)))
          decide (inr le) (inr ge) = omega (arith, le, ge)
