-- A shortest way between two tiles, told by the tree rooted at the kind of the first one, and how far the tiles on a walk are.
use Rattle.std.proofs.Common.{◌≡◌, ℕ, zero, suc, ◌<◌, List, [], ◌∷◌, ◌++◌, length, replicate, refl, sym, ap, ◌∙◌, subst, arith, append_assoc, append-nil}
use Rattle.tile_model.specs.declared.Letter.{Letter}
use Rattle.tile_model.specs.declared.Letter.TheVariants.{L, R}
use Rattle.tile_model.specs.Tessellations.{TileKind, IsType}
use Rattle.tile_model.specs.Validity.{IsValid}
use Rattle.tile_model.specs.Walks.{type_of, crossings, inverse}
use Rattle.tile_model.specs.Relation.{AreRelated, AreAtSameTile, IsDistance}
use Rattle.tile_model.proofs.Relations.{related_on, related_back, related_before, related_equal}
use Rattle.tile_model.proofs.Inverses.{inverse_cons, crossings_append, crossings_lefts, crossings_inverse, back_there_on}
use Rattle.tile_model.proofs.SameTile.{related_same_tile, same_tile_back, same_tile_on}
use Rattle.tile_model.proofs.Distances.{turning_stays}
use Rattle.tree_model.specs.Automata.{TreeAutomaton}
use Rattle.tree_model.specs.Conditions.{IsAccepted}
use Rattle.tree_model.specs.Names.{word}
use Rattle.tree_model.specs.Positions.{Position}
use Rattle.tree_model.specs.Places.{position_word, IsPlace}
use Rattle.tree_laws.specs.Laws.{rerooted, way_to}
use Rattle.tree_laws.proofs.Words.{crossings_word}
use Rattle.tree_laws.proofs.Levels.{start_type, rerooted_back, distance}

rights_push : (n : ℕ) → replicate n R ++ R ∷ [] ≡ replicate (suc n) R
rights_push zero = refl
rights_push (suc n) = ap (λ w. R ∷ w) (rights_push n)

-- the way back along letters L
pub inverse_lefts : (n : ℕ) → inverse (replicate n L) ≡ replicate n R
inverse_lefts zero = refl
inverse_lefts (suc n) = inverse_cons L (replicate n L) ∙ ap (λ w. w ++ R ∷ []) (inverse_lefts n) ∙ rights_push n

crossings_rights : (n : ℕ) → crossings (replicate n R) ≡ 0
crossings_rights n = ap crossings (sym (inverse_lefts n)) ∙ crossings_inverse (replicate n L) ∙ crossings_lefts n

-- the way to a name crosses as often as the name is long
pub crossings_way : (s : ℕ) (name : List ℕ) → crossings (way_to s name) ≡ length name
crossings_way s [] = refl
crossings_way s (i ∷ name) = crossings_append (replicate s R) (word (i ∷ name)) ∙ omega (arith, crossings_rights s, crossings_word (i ∷ name))

module _ (kinds : List TileKind) (a : TreeAutomaton) (valid : IsValid kinds) (ok : IsAccepted kinds a) (k : ℕ) (known : k < length kinds) where
  start : IsType kinds (k, 0)
  start = start_type kinds a valid ok k known

  -- the turns back and the word, whatever the name
  whole_way : (u w : List Letter) (p : Position) → IsPlace kinds a (type_of kinds (k, 0) u).0 (rerooted (type_of kinds (k, 0) u) u w) p → AreAtSameTile kinds (k, 0) (u ++ (replicate (type_of kinds (k, 0) u).1 R ++ word p.name)) w
  whole_way u w p h =
      let s = (type_of kinds (k, 0) u).1 in
      let turns : List Letter = replicate p.side L in
      let v : List Letter = u ++ (replicate s R ++ word p.name) in
      let shape : v ++ turns ≡ u ++ (inverse (replicate s L) ++ position_word p) =
      append_assoc u (replicate s R ++ word p.name) turns ∙ ap (λ z. u ++ z) (append_assoc (replicate s R) (word p.name) turns ∙ ap (λ z. z ++ position_word p) (sym (inverse_lefts s))) in
      let there = related_same_tile kinds valid (k, 0) start (related_on kinds (related_equal kinds shape) (rerooted_back kinds a valid ok k known u w p h)) in
      same_tile_on kinds valid (k, 0) start (same_tile_back kinds valid (k, 0) start (turning_stays kinds valid (k, 0) start turns v (crossings_lefts p.side))) there

  way_named : (u w : List Letter) (p : Position) (name : List ℕ) → p.name ≡ name → AreAtSameTile kinds (k, 0) (u ++ (replicate (type_of kinds (k, 0) u).1 R ++ word name)) w → AreAtSameTile kinds (k, 0) (u ++ way_to (type_of kinds (k, 0) u).1 name) w
  way_named u w p [] e same =
      let s = (type_of kinds (k, 0) u).1 in
      let turns : List Letter = replicate s R ++ [] in
      let none : crossings turns ≡ 0 = crossings_append (replicate s R) [] ∙ omega (arith, crossings_rights s) in
      let stay = turning_stays kinds valid (k, 0) start turns u none in
      subst (λ v. AreAtSameTile kinds (k, 0) v w) (sym (append-nil u)) (same_tile_on kinds valid (k, 0) start (same_tile_back kinds valid (k, 0) start stay) same)
  way_named u w p (i ∷ name) e same = same

  -- it leads from the tile of u to that of w
  pub way_leads : (u w : List Letter) (p : Position) → IsPlace kinds a (type_of kinds (k, 0) u).0 (rerooted (type_of kinds (k, 0) u) u w) p → AreAtSameTile kinds (k, 0) (u ++ way_to (type_of kinds (k, 0) u).1 p.name) w
  way_leads u w p h = way_named u w p p.name refl (whole_way u w p h)

  -- How far the tile of u and then v is from that of u: the depth, in the tree of its kind, of the place of v from its side.
  pub distance_behind : (u v : List Letter) (p : Position) → IsPlace kinds a (type_of kinds (k, 0) u).0 (replicate (type_of kinds (k, 0) u).1 L ++ v) p → IsDistance kinds (k, 0) u (u ++ v) (length p.name)
  distance_behind u v p h =
      let e = type_of kinds (k, 0) u in
      let l : List Letter = replicate e.1 L in
      let same : AreRelated kinds (e.0, 0) (l ++ v) (l ++ (inverse u ++ (u ++ v))) = related_before kinds l (related_back kinds (back_there_on kinds (type_of kinds (e.0, 0) l) u v)) in
      distance kinds a valid ok k known u (u ++ v) p (record { position = h.position; related = related_on kinds h.related same })
