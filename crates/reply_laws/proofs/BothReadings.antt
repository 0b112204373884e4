-- What the tree says and what walks say is the same, and it is definite.
use Rattle.std.proofs.Common.{◌≡◌, ℕ, ◌<◌, ◌↔◌, inl, inr, true, false, Bool, List, [], length, refl, sym, ap, ◌∙◌, subst}
use Rattle.std.proofs.lemmas.Bool.{both_ways}
use Rattle.std.specs.Str.{bytes_eq}
use Rattle.std.proofs.lemmas.Slice.Eq.{bytes_eq-Decides}
use Rattle.tile_model.specs.declared.Letter.{Letter}
use Rattle.tile_model.specs.Tessellations.{TileKind, IsType}
use Rattle.tile_model.specs.Validity.{IsValid}
use Rattle.tile_model.specs.Relation.{AreAtSameTile, IsDistance}
use Rattle.tile_model.proofs.Types.{walk_type}
use Rattle.tile_model.specs.TileCounts.{LieAway}
use Rattle.tile_model.proofs.Distances.{one_distance}
use Rattle.tile_model.proofs.TileCounts.{one_count}
use Rattle.tree_model.specs.Automata.{TreeAutomaton}
use Rattle.tree_model.specs.Conditions.{IsAccepted}
use Rattle.tree_model.specs.Positions.{Position, root}
use Rattle.tree_model.proofs.Rings.{one_ring}
use Rattle.tree_laws.specs.Laws.{HasOnePlace}
use Rattle.tree_laws.proofs.Together.{walks_one_place, names_tell, rings_exist}
use Rattle.tree_laws.proofs.RingTiles.{ring_counts}
use Rattle.tree_laws.proofs.Levels.{start_type, distance}
use Rattle.tree_laws.proofs.Walking.{leads_same}
use Rattle.reply_model.specs.WalkReadings.{IsThePlace, walk_reading}
use Rattle.reply_model.specs.TreeReadings.{LeadsTo, LeadToOneName, LeadsApart, RingHasNames, tree_reading}
use Rattle.reply_model.specs.Ways.{end_type, way_between}
use Rattle.reply_laws.specs.Laws.{ReadingsAgree, RepliesAgree}
use Rattle.reply_laws.proofs.Alike.{EndsAreKnown, the_other_way, read_again}
use Rattle.reply_laws.proofs.Definite.{IsSettled, settled_alike, IsDefinite, definite_alike}

module _
    (kinds : List TileKind) (a : TreeAutomaton) (valid : IsValid kinds) (ok : IsAccepted kinds a)
  where
    one : (k : ℕ) → k < length kinds → (u : List Letter) → HasOnePlace kinds a k u
    one k known u = walks_one_place kinds a k valid ok known u

    -- the place of a walk is the position that it leads to
    pub place_led :
        (k : ℕ) → k < length kinds → (u : List Letter) (p : Position) →
        LeadsTo kinds a k u p ↔ IsThePlace kinds a k u p
    place_led k known u p = (
      (λ l.
          let h = ((one k known u).reached p).1 l in
          record { is_place = h; no_other = λ q g. (one k known u).one q p g h }),
      (λ t. ((one k known u).reached p).0 t.is_place),
    )

    module _ (k : ℕ) (known : k < length kinds) where
      -- two walks lead to one name where they are at the same tile
      pub tile_named :
          (u w : List Letter) → LeadToOneName kinds a k u w ↔ AreAtSameTile kinds (k, 0) u w
      tile_named u w = (
        (λ t.
            (names_tell kinds a k valid ok known u w t.first t.second
            (((one k known u).reached t.first).1 t.first_led)
            (((one k known w).reached t.second).1 t.second_led)).0 t.one_name),
        (λ t.
            let (p, h) = (one k known u).some in
            let (q, g) = (one k known w).some in
            record {
              first = p;
              second = q;
              first_led = ((one k known u).reached p).0 h;
              second_led = ((one k known w).reached q).0 g;
              one_name = (names_tell kinds a k valid ok known u w p q h g).1 t;
            }),
      )

      pub end_known : EndsAreKnown kinds k
      end_known u =
          let t : IsType kinds (end_type kinds k u) = walk_type kinds valid (k, 0) u
          (start_type kinds a valid ok k known) in t.0

      -- what lies between two walks has one place
      between :
          (u w : List Letter) →
          HasOnePlace kinds a (end_type kinds k u).0 (way_between kinds k u w)
      between u w = one (end_type kinds k u).0 (end_known u) (way_between kinds k u w)

      -- and the length of its name is the distance
      pub apart_led :
          (u w : List Letter) (n : ℕ) → LeadsApart kinds a k u w n ↔ IsDistance kinds (k, 0) u w n
      apart_led u w n = (
        (λ l. subst (IsDistance kinds (k, 0) u w) l.sides
            (distance kinds a valid ok k known u w l.place (((between u w).reached l.place).1 l.led))),
        (λ d.
            let (p, h) = (between u w).some in
            let far = distance kinds a valid ok k known u w p h in
            let sides = one_distance kinds (k, 0) u w (length p.name) n far d in
            record { place = p; led = ((between u w).reached p).0 h; sides = sides }),
      )

      start : IsType kinds (k, 0)
      start = start_type kinds a valid ok k known

      -- as many tiles lie at a distance as its ring has names
      pub ring_counted : (d n : ℕ) → RingHasNames kinds a k d n ↔ LieAway kinds (k, 0) d n
      ring_counted d n = (
        (λ h.
            subst (λ m. LieAway kinds (k, 0) d m) h.count
            (ring_counts kinds a k valid ok known d h.names h.ring)),
        (λ h.
            let (names, ring) = rings_exist kinds a k valid ok known d in
            let away = ring_counts kinds a k valid ok known d names ring in
            let count = one_count kinds valid (k, 0) start (λ u. IsDistance kinds (k, 0) [] u d)
            (length names) n away h in
            record { names = names; ring = ring; count = count }),
      )

      pub readings_agree : ReadingsAgree kinds a k
      readings_agree = record {
        places = place_led;
        tiles = tile_named;
        distances = apart_led;
        sizes = ring_counted;
      }

      pub replies_agree : RepliesAgree kinds a k
      replies_agree h c x = (
        (λ d. read_again kinds k end_known readings_agree h d),
        (λ d. read_again kinds k end_known (the_other_way readings_agree) h d),
      )

      -- whether two walks lead to one name
      named_or_not : (u w : List Letter) → IsSettled (LeadToOneName kinds a k u w)
      named_or_not u w =
          let (p, h) = (one k known u).some in
          let (q, g) = (one k known w).some in
          let tell = names_tell kinds a k valid ok known u w p q h g in
          settled_alike (λ e. (tile_named u w).1 (tell.0 e)) (λ t. tell.1 ((tile_named u w).0 t))
          (name_or_not p.name q.name)
        where
          name_or_not : (m n : List ℕ) → IsSettled (m ≡ n)
          name_or_not m n = test (bytes_eq m n) (bytes_eq-Decides m n)
            where
              test : (b : Bool) → (b ≡ true → m ≡ n) × (m ≡ n → b ≡ true) → IsSettled (m ≡ n)
              test true d = inl (d.0 refl)
              test false d = inr (λ e. both_ways false refl (d.1 e))

      pub tree_definite : IsDefinite kinds (tree_reading kinds a k)
      tree_definite = record {
        place_some = λ j lt u. let (p, h) = (one j lt u).some in (p, ((one j lt u).reached p).0 h);
        place_one = λ j lt u p q l m. leads_same kinds a j valid ok lt u root p q l m;
        together = named_or_not;
        apart_some =
            λ u w. let (p, h) = (between u w).some in (
              length p.name,
              record
                  { place = p; led = ((between u w).reached p).0 h; sides = refl },
            );
        apart_one =
            λ u w m n l j. one_distance kinds (k, 0) u w m n ((apart_led u w m).0 l)
            ((apart_led u w n).0 j);
        sizes_some = λ d.
            let (names, ring) = rings_exist kinds a k valid ok known d in
            (length names, record { names = names; ring = ring; count = refl });
        sizes_one =
            λ d m n h g. sym h.count ∙ ap length (one_ring kinds a k d h.names g.names h.ring g.ring)
            ∙ g.count;
      }

      pub walks_definite : IsDefinite kinds (walk_reading kinds a k)
      walks_definite = definite_alike readings_agree tree_definite
