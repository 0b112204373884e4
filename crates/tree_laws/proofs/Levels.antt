-- The length of the name of a walk's place is the walk's distance from the root, and the tree rooted at the kind of the first tile tells
-- the distance of any two tiles.
use Rattle.std.proofs.Common.{◌≡◌, ℕ, suc, ◌+◌, ◌<◌, ◌≤◌, ◌%◌, inl, inr, List, [], ◌∷◌, ◌++◌, length, replicate, refl, sym, ap, ◌∙◌, subst, arith, append_assoc, mod-eq_of_lt, zero-add}
use Rattle.tile_model.specs.declared.Letter.{Letter}
use Rattle.tile_model.specs.declared.Letter.TheVariants.{L, R, X}
use Rattle.tile_model.specs.Tessellations.{TileKind, kind_at, IsType}
use Rattle.tile_model.specs.Validity.{IsValid}
use Rattle.tile_model.specs.Walks.{type_of, crossings, inverse}
use Rattle.tile_model.specs.Relation.{AreRelated, IsDistance}
use Rattle.tile_model.proofs.Types.{type_lefts, walk_type}
use Rattle.tile_model.proofs.Relations.{related_on, related_before, related_behind, related_equal}
use Rattle.tile_model.proofs.Inverses.{crossings_append, crossings_lefts, crossings_inverse, inverse_cancels, related_cancel, related_move, related_move_back}
use Rattle.tile_model.proofs.SameTile.{related_same_tile}
use Rattle.tree_model.specs.Automata.{TreeAutomaton}
use Rattle.tree_model.specs.Conditions.{IsAccepted}
use Rattle.tree_model.specs.Contours.{Tree}
use Rattle.tree_model.specs.Positions.{Position, IsPosition, root, hop, mark, LiesAcross, in_tree, from_left, from_right, Moves, Leads}
use Rattle.tree_model.specs.Places.{position_word, IsPlace}
use Rattle.tree_model.proofs.Positions.{IsTreeAcross, down_depth, hop_across}
use Rattle.tree_laws.specs.Laws.{rerooted}
use Rattle.tree_laws.proofs.Bounds.{match_depth}
use Rattle.tree_laws.proofs.TreePlane.{tree_land, plane}
use Rattle.tree_laws.proofs.Walking.{moves_position}
use Rattle.tree_laws.proofs.Words.{root_position, word_leads, crossings_position}
use Rattle.tree_laws.proofs.Places.{leads_place, one_place, places_related, places_same_tile}

module _ (kinds : List TileKind) (a : TreeAutomaton) (k : ℕ) (valid : IsValid kinds) (ok : IsAccepted kinds a) (known : k < length kinds) where
  -- a crossing changes the depth by one at most
  pub hop_near : (p : Position) → IsPosition kinds a k p → mark kinds a k p ≡ Tree → length (hop kinds a k p).name ≤ suc (length p.name)
  hop_near p h t = go (hop_across kinds a k valid ok known p h t)
    where
      go : IsTreeAcross kinds a k p (hop kinds a k p) → length (hop kinds a k p).name ≤ suc (length p.name)
      go (inl d) = omega (arith, down_depth kinds a k p (hop kinds a k p) d)
      go (inr d) = omega (arith, down_depth kinds a k (hop kinds a k p) p d)

  pub across_near : (p q : Position) → IsPosition kinds a k p → LiesAcross kinds a k p q → length q.name ≤ suc (length p.name)
  across_near p q h (in_tree t e) = subst (λ z. length z.name ≤ suc (length p.name)) e (hop_near p h t)
  across_near p q h (from_left m) = (match_depth Position (IsPosition kinds a k) (tree_land kinds a k) (plane kinds a k valid ok known) h m).0
  across_near p q h (from_right hq m) = (match_depth Position (IsPosition kinds a k) (tree_land kinds a k) (plane kinds a k valid ok known) hq m).1

  moves_near : (x : Letter) (p q : Position) (w : List Letter) → IsPosition kinds a k p → Moves kinds a k x p q → length q.name + crossings w ≤ length p.name + crossings (x ∷ w)
  moves_near L p q w h e = omega (arith, ap (λ p. length p.name) e)
  moves_near R p q w h e = omega (arith, ap (λ p. length p.name) e)
  moves_near X p q w h c = omega (arith, across_near p q h c)

  -- so a walk that crosses n times changes it by n at most
  pub leads_near : (w : List Letter) (p q : Position) → IsPosition kinds a k p → Leads kinds a k p w q → length q.name ≤ length p.name + crossings w
  leads_near [] p q h e = omega (arith, ap (λ p. length p.name) e)
  leads_near (x ∷ w) p q h f = omega (arith, leads_near w f.0 q (moves_position kinds a k valid ok known x p f.0 h f.1) f.2, moves_near x p f.0 w h f.1)

  -- the depth is the distance
  pub level : (u : List Letter) (p : Position) → IsPlace kinds a k u p → IsDistance kinds (k, 0) [] u (length p.name)
  level u p h =
      let at_root = root_position kinds a k valid ok known in
      let w = word_leads kinds a k valid ok known p h.position in
      record {
        attained = (position_word p, crossings_position p, (places_same_tile kinds a k valid ok known (position_word p) u p p (leads_place kinds a k valid ok known (position_word p) p w) h).0 refl);
        least = λ z s.
            let (q, is, f) = one_place kinds a k valid ok known z in
            let e = (places_same_tile kinds a k valid ok known z u q p is h).1 s in
            omega (arith, ap length e, leads_near z root q at_root f);
      }

module _ (kinds : List TileKind) (a : TreeAutomaton) (valid : IsValid kinds) (ok : IsAccepted kinds a) where
  pub start_type : (k : ℕ) → k < length kinds → IsType kinds (k, 0)
  start_type k h = (h, (valid.repeat k h).positive)

  -- any type is reached from side 0 of its kind by turns
  pub turns_reach : (d : ℕ × ℕ) → IsType kinds d → type_of kinds (d.0, 0) (replicate d.1 L) ≡ d
  turns_reach d h =
      type_lefts kinds valid d.1 (d.0, 0) (start_type d.0 h.0) ∙ ap (λ s. (d.0, s)) (ap (λ n. n % (kind_at kinds d.0).repeat) (zero-add d.1) ∙ mod-eq_of_lt h.1)

  -- The walk from the tile of u that turns back to side 0 and follows the word of the place leads to the tile of w.
  pub rerooted_back : (k : ℕ) → k < length kinds → (u w : List Letter) (p : Position) → IsPlace kinds a (type_of kinds (k, 0) u).0 (rerooted (type_of kinds (k, 0) u) u w) p → AreRelated kinds (k, 0) (u ++ (inverse (replicate (type_of kinds (k, 0) u).1 L) ++ position_word p)) w
  rerooted_back k known u w p h =
      let e = type_of kinds (k, 0) u in
      let l : List Letter = replicate e.1 L in
      let te : IsType kinds e = walk_type kinds valid (k, 0) u (start_type k known) in
      let z : List Letter = inverse l ++ position_word p in
      let same : AreRelated kinds (e.0, 0) (l ++ z) (position_word p) = related_on kinds (related_equal kinds (sym (append_assoc l (inverse l) (position_word p)))) (related_behind kinds (position_word p) (inverse_cancels kinds (e.0, 0) l)) in
      let there : AreRelated kinds (e.0, 0) (l ++ z) (l ++ (inverse u ++ w)) = related_on kinds same h.related in
      let at_e : AreRelated kinds e z (inverse u ++ w) = subst (λ d. AreRelated kinds d z (inverse u ++ w)) (turns_reach e te) (related_cancel kinds valid (e.0, 0) l there) in
      related_move_back kinds valid (k, 0) u z w at_e

  rerooted_least : (k : ℕ) → k < length kinds → (u w y : List Letter) (p : Position) → IsPlace kinds a (type_of kinds (k, 0) u).0 (rerooted (type_of kinds (k, 0) u) u w) p → AreRelated kinds (k, 0) (u ++ y) w → length p.name ≤ crossings y
  rerooted_least k known u w y p h r =
      let e = type_of kinds (k, 0) u in
      let l : List Letter = replicate e.1 L in
      let te : IsType kinds e = walk_type kinds valid (k, 0) u (start_type k known) in
      let at_e : AreRelated kinds e y (inverse u ++ w) = related_move kinds valid (k, 0) u y w r in
      let there : AreRelated kinds (e.0, 0) (l ++ y) (l ++ (inverse u ++ w)) = related_before kinds l (subst (λ d. AreRelated kinds d y (inverse u ++ w)) (sym (turns_reach e te)) at_e) in
      let (q, is, f) = one_place kinds a e.0 valid ok te.0 (l ++ y) in
      let same = (places_related kinds a e.0 valid ok te.0 (l ++ y) (rerooted e u w) q p is h).1 there in
      let near = leads_near kinds a e.0 valid ok te.0 (l ++ y) root q (root_position kinds a e.0 valid ok te.0) f in
      omega (arith, ap (λ o. length o.name) same, near, crossings_append l y, crossings_lefts e.1)

  -- the distance of two tiles is the depth of that place
  pub distance : (k : ℕ) → k < length kinds → (u w : List Letter) (p : Position) → IsPlace kinds a (type_of kinds (k, 0) u).0 (rerooted (type_of kinds (k, 0) u) u w) p → IsDistance kinds (k, 0) u w (length p.name)
  distance k known u w p h =
      let l : List Letter = replicate (type_of kinds (k, 0) u).1 L in
      let z : List Letter = inverse l ++ position_word p in
      let n : crossings z ≡ length p.name = crossings_append (inverse l) (position_word p) ∙ omega (arith, crossings_inverse l, crossings_lefts (type_of kinds (k, 0) u).1, crossings_position p) in
      record {
        attained = (z, n, related_same_tile kinds valid (k, 0) (start_type k known) (rerooted_back k known u w p h));
        least = λ y s.
            let turns : List Letter = replicate s.turns L in
            let r = related_on kinds (related_equal kinds (sym (append_assoc u y turns))) s.related in
            let m = rerooted_least k known u w (y ++ turns) p h r in
            omega (arith, m, crossings_append y turns, crossings_lefts s.turns);
      }
