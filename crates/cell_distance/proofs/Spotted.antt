-- Ways between two spots of one tree, and what they tell of all walks after which the spots stand.
use Rattle.std.proofs.Common.{◌≡◌, ℕ, ◌-◌, ◌<◌, ◌≤◌, inr, List, [], ◌∷◌, ◌++◌, length, take, drop, replicate, refl, sym, ap, ap₂, ◌∙◌, subst, append_assoc, take-append-drop, arith}
use Rattle.tile_model.specs.declared.Letter.{Letter}
use Rattle.tile_model.specs.declared.Letter.TheVariants.{L, X}
use Rattle.tile_model.specs.Tessellations.{TileKind, IsType}
use Rattle.tile_model.specs.Validity.{IsValid}
use Rattle.tile_model.specs.Walks.{type_of, inverse}
use Rattle.tile_model.specs.Relation.{AreRelated, AreAtSameTile, IsDistance}
use Rattle.tile_model.proofs.Types.{walk_type}
use Rattle.tile_model.proofs.Relations.{related_type, related_behind}
use Rattle.tile_model.proofs.Inverses.{inverse_type, crossings_lefts, related_inverses}
use Rattle.tile_model.proofs.SameTile.{related_same_tile, same_tile_on, same_tile_back, same_tile_before}
use Rattle.tile_model.proofs.Distances.{distance_from, distance_to, turning_stays}
use Rattle.tree_model.specs.Automata.{TreeAutomaton}
use Rattle.tree_model.specs.Conditions.{IsAccepted}
use Rattle.tree_model.specs.Names.{word}
use Rattle.tree_model.specs.Positions.{Position}
use Rattle.tree_model.specs.Places.{IsPlace, position_word}
use Rattle.tree_laws.specs.Laws.{rerooted, way_to, IsPlaceFrom, IsShortestWay}
use Rattle.tree_laws.proofs.Words.{crossings_position}
use Rattle.tree_laws.proofs.Places.{one_place, places_same_tile}
use Rattle.tree_laws.proofs.Levels.{start_type, turns_reach}
use Rattle.tree_laws.proofs.Between.{kind_known, shortest_way}
use Rattle.tree_model.specs.Limits.{deepest}
use Rattle.cell_distance.specs.Passing.{LeavesOut}
use Rattle.cell_distance.proofs.Leaving.{from_on}

word_append : (m n : List ℕ) → word (m ++ n) ≡ word m ++ word n
word_append [] n = refl
word_append (i ∷ m) n = ap (λ l. replicate i L ++ X ∷ l) (word_append m n) ∙ sym (append_assoc (replicate i L) (X ∷ word m) (word n))

-- the way back along a position, and then along a name
abbrev pub way : List ℕ → ℕ → List ℕ → List Letter
way back spin onwards = inverse (word back ++ replicate spin L) ++ word onwards

-- the way between the words of two spots, from the place where their names part
spots_leave_out : (m n back onwards : List ℕ) (side kept : ℕ) → back ≡ drop kept m → onwards ≡ drop kept n → take kept m ≡ take kept n → length m ≤ deepest
    → LeavesOut (position_word (record { name = m; side = side })) (word n) (way back side onwards)
spots_leave_out m n back onwards side kept b o same few = record {
  common = word (take kept m);
  back = word back ++ replicate side L;
  onwards = word onwards;
  first = ap (λ l. l ++ replicate side L) (split m back b) ∙ append_assoc (word (take kept m)) (word back) (replicate side L);
  second = split n onwards o ∙ ap (λ l. word l ++ word onwards) (sym same);
  shape = refl;
  short = inr (omega (arith, few, crossings_position (record { name = m; side = side })));
}
  where
    split : (l rest : List ℕ) → rest ≡ drop kept l → word l ≡ word (take kept l) ++ word rest
    split l rest e = ap word (sym (take-append-drop kept l)) ∙ word_append (take kept l) (drop kept l) ∙ ap (λ r. word (take kept l) ++ word r) (sym e)

-- the same, of names that were read several times, and their sides from there on
pub parts_leave_out : (m n a b c d : List ℕ) (side spin kept : ℕ) → a ≡ m → b ≡ n → c ≡ m → d ≡ n → spin ≡ side → take kept a ≡ take kept b → length m ≤ deepest
    → LeavesOut (position_word (record { name = m; side = side })) (word n) (way (take (length c - kept) (drop kept c)) spin (take (length d - kept) (drop kept d)))
parts_leave_out m n a b c d side spin kept first second third fourth fifth same few =
    let back : take (length c - kept) (drop kept c) ≡ drop kept m = ap (λ (l : List ℕ). take (length l - kept) (drop kept l)) third ∙ from_on kept m in
    let onwards : take (length d - kept) (drop kept d) ≡ drop kept n = ap (λ (l : List ℕ). take (length l - kept) (drop kept l)) fourth ∙ from_on kept n in
    let shared : take kept m ≡ take kept n = ap (take kept) (sym first) ∙ same ∙ ap (take kept) second in
    subst (λ i. LeavesOut (position_word (record { name = m; side = side })) (word n) (way (take (length c - kept) (drop kept c)) i (take (length d - kept) (drop kept d)))) (sym fifth)
    (spots_leave_out m n (take (length c - kept) (drop kept c)) (take (length d - kept) (drop kept d)) side kept back onwards shared few)

module _ (kinds : List TileKind) (a : TreeAutomaton) (k : ℕ) (valid : IsValid kinds) (ok : IsAccepted kinds a) (known : k < length kinds) where
  start : IsType kinds (k, 0)
  start = start_type kinds a valid ok k known

  -- the word of a place without its turns is at the tile of each walk of which it is the place
  pub word_there : (q : Position) (w : List Letter) → IsPlace kinds a k w q → AreAtSameTile kinds (k, 0) (word q.name) w
  word_there q w h =
      let turned = turning_stays kinds valid (k, 0) start (replicate q.side L) (word q.name) (crossings_lefts q.side) in
      same_tile_on kinds valid (k, 0) start (same_tile_back kinds valid (k, 0) start turned) (related_same_tile kinds valid (k, 0) start h.related)

  module _ (p q : Position) (u w : List Letter) (first : IsPlace kinds a k u p) (second : IsPlace kinds a k w q) where
    pub distance_of_walks : (n : ℕ) → IsDistance kinds (k, 0) (position_word p) (word q.name) n → IsDistance kinds (k, 0) u w n
    distance_of_walks n h = distance_to kinds valid (k, 0) start u (word q.name) w n (word_there q w second) (distance_from kinds valid (k, 0) start (position_word p) u (word q.name) n (related_same_tile kinds valid (k, 0) start first.related) h)

    same_end : type_of kinds (k, 0) (position_word p) ≡ type_of kinds (k, 0) u
    same_end = related_type kinds valid (k, 0) first.related

    -- from the tile of p, both walks lead to one name
    pub one_name : (i j : Position) → IsPlaceFrom kinds a k (position_word p) (word q.name) i → IsPlaceFrom kinds a k u w j → i.name ≡ j.name
    one_name i j x y = (places_same_tile kinds a e.0 valid ok (kind_known kinds a k valid ok known u) (rerooted e (position_word p) (word q.name)) (rerooted e u w) i j x' y).1 together
      where
        e : ℕ × ℕ
        e = type_of kinds (k, 0) u

        x' : IsPlace kinds a (type_of kinds (k, 0) u).0 (rerooted (type_of kinds (k, 0) u) (position_word p) (word q.name)) i
        x' = subst (λ (d : ℕ × ℕ). IsPlace kinds a d.0 (rerooted d (position_word p) (word q.name)) i) (related_type kinds valid (k, 0) first.related) x

        together : AreAtSameTile kinds ((type_of kinds (k, 0) u).0, 0) (rerooted (type_of kinds (k, 0) u) (position_word p) (word q.name)) (rerooted (type_of kinds (k, 0) u) u w)
        together = same_tile_before kinds valid (e.0, 0) (replicate e.1 L) (subst (λ d. AreAtSameTile kinds d (inverse (position_word p) ++ word q.name) (inverse u ++ w)) (sym (turns_reach kinds a valid ok e te)) at_e)
          where
            te : IsType kinds (type_of kinds (k, 0) u)
            te = walk_type kinds valid (k, 0) u start

            back : AreRelated kinds (type_of kinds (k, 0) u) (inverse (position_word p) ++ word q.name) (inverse u ++ word q.name)
            back = related_behind kinds (word q.name) (subst (λ d. AreRelated kinds d (inverse (position_word p)) (inverse u)) same_end (related_inverses kinds valid (k, 0) first.related))

            onwards : AreAtSameTile kinds (type_of kinds (k, 0) u) (inverse u ++ word q.name) (inverse u ++ w)
            onwards = same_tile_before kinds valid (type_of kinds (k, 0) u) (inverse u) (subst (λ d. AreAtSameTile kinds d (word q.name) w) (sym (inverse_type kinds valid (k, 0) u)) (word_there q w second))

            at_e : AreAtSameTile kinds (type_of kinds (k, 0) u) (inverse (position_word p) ++ word q.name) (inverse u ++ w)
            at_e = same_tile_on kinds valid (type_of kinds (k, 0) u) te (related_same_tile kinds valid (type_of kinds (k, 0) u) te back) onwards

    -- and the way along it is a shortest one
    pub way_of_walks : (i : Position) → IsPlaceFrom kinds a k (position_word p) (word q.name) i → (j : Position) → IsPlaceFrom kinds a k u w j → way_to (type_of kinds (k, 0) (position_word p)).1 i.name ≡ way_to (type_of kinds (k, 0) u).1 j.name
    way_of_walks i x j y = ap₂ way_to (ap (λ (d : ℕ × ℕ). d.1) same_end) (one_name i j x y)

    pub shortest_of_walks : (i : Position) → IsPlaceFrom kinds a k (position_word p) (word q.name) i → IsShortestWay kinds (k, 0) u w (way_to (type_of kinds (k, 0) (position_word p)).1 i.name)
    shortest_of_walks i x =
        let e = type_of kinds (k, 0) u in
        let (j, y, leads) = one_place kinds a e.0 valid ok (kind_known kinds a k valid ok known u) (rerooted e u w) in
        subst (λ z. IsShortestWay kinds (k, 0) u w z) (sym (way_of_walks i x j y)) (shortest_way kinds a k valid ok known u w j y)
