-- Each crossing follows from the loops: a side outside the tree is one loop round its corner and the crossings of the sides nested in it.
use Rattle.std.proofs.Common.{◌≡◌, ℕ, zero, suc, ◌+◌, List, [], ◌∷◌, ◌++◌, refl, sym, ap, ◌∙◌, subst, arith, append_assoc, append-nil}
use Rattle.tile_model.specs.declared.Letter.{Letter}
use Rattle.tile_model.specs.declared.Letter.TheVariants.{L, X}
use Rattle.tile_model.specs.Tessellations.{TileKind, valence}
use Rattle.tile_model.specs.Walks.{type_of, times}
use Rattle.tile_model.specs.Relation.{there_and_back, round_corner, AreRelated}
use Rattle.tile_model.proofs.Relations.{related_equal, related_on, related_back, related_behind, related_loop}
use Rattle.tree_model.specs.Contours.{Tree, Opens, Closes, FreeWay, stay, tree, nested, AreMatched}
use Rattle.tree_laws.specs.Plane.{Land, IsPlane}
use Rattle.tree_laws.proofs.Across.{Lies, in_tree, leftwards, rightwards}
use Rattle.tree_laws.proofs.Track.{kept, there_at}
use Rattle.tree_laws.proofs.Ends.{there_last, before_closes, place_next}

-- n times LX
abbrev rounds : ℕ → List Letter
rounds n = times n (L ∷ X ∷ [])

rounds_end : (n : ℕ) → rounds (suc n) ≡ rounds n ++ (L ∷ X ∷ [])
rounds_end zero = refl
rounds_end (suc n) = ap (λ w. L ∷ X ∷ w) (rounds_end n)

-- Each place has a word, which follows turns to the left and sides of the tree, and whose type has the valence of the corner.
pub record AreWorded (P : Type 0) (There : P → Type 0) (land : Land P) (kinds : List TileKind) (d : ℕ × ℕ) (word : P → List Letter) : Type 0 where
  pub of_left : (p : P) → There p → AreRelated kinds d (word p ++ (L ∷ [])) (word (land.left p))
  pub of_hop : (p : P) → There p → land.mark p ≡ Tree → AreRelated kinds d (word p ++ (X ∷ [])) (word (land.hop p))
  pub valence_is : (p : P) → There p → valence kinds (type_of kinds d (word p)) ≡ suc (land.last (land.corner p))

module _ (P : Type 0) (There : P → Type 0) (land : Land P) (plane : IsPlane P There land) (kinds : List TileKind) (d : ℕ × ℕ) (word : P → List Letter) (worded : AreWorded P There land kinds d word) where
  abbrev W : P → P → Type 0
  W = FreeWay P land.left land.hop land.mark

  abbrev M : P → P → Type 0
  M = AreMatched P land.left land.hop land.mark

  abbrev Rel : List Letter → List Letter → Type 0
  Rel = AreRelated kinds d

  on : {u v w : List Letter} → Rel u v → Rel v w → Rel u w
  on = related_on kinds

  behind : {u w : List Letter} (z : List Letter) → Rel u w → Rel (u ++ z) (w ++ z)
  behind = related_behind kinds

  same : {u w : List Letter} → u ≡ w → Rel u w
  same = related_equal kinds

  -- a turn, and then the rest
  turned : (p : P) (z : List Letter) → There p → Rel (word p ++ (L ∷ z)) (word (land.left p) ++ z)
  turned p z g = on (same (sym (append_assoc (word p) (L ∷ []) z))) (behind z (worded.of_left p g))

  -- a turn and a crossing, and then the rest
  moved : (x y : P) (z : List Letter) → There x → Rel (word (land.left x) ++ (X ∷ [])) (word y) → Rel (word x ++ (L ∷ X ∷ z)) (word y ++ z)
  moved x y z g r = on (turned x (X ∷ z) g) (on (same (sym (append_assoc (word (land.left x)) (X ∷ []) z))) (behind z r))

  moves : {x w : P} → W x w → ℕ
  moves (stay e) = 0
  moves (tree t r) = suc (moves r)
  moves (nested v o a k b) = suc (moves b)

  moves_place : {x w : P} → There x → (a : W x w) → land.place w ≡ land.place x + moves a
  unfolding moves
  moves_place g (stay e) = omega (arith, ap land.place e)
  moves_place {x} {w} g (tree t r) = omega (arith, plane.tree_place x g t, moves_place (plane.there_hop (land.left x) (plane.there_left x g) t) r)
  moves_place {x} {w} g (nested v o a k b) =
      let gl = plane.there_left x g in
      let gv = there_at P There land plane gl a in
      let m : M (land.left x) (land.left v) = record { opens = o; closes = k; last = v; way = a; turned = refl } in
      omega (arith, place_next P There land plane g m, moves_place (plane.there_left v gv) b)

  -- from a way inside a corner to the crossing of its key edge
  closing : {x v : P} → There x → There v → land.mark x ≡ Opens → land.mark (land.left v) ≡ Closes → (a : W x v) → Rel (word x ++ rounds (moves a)) (word v) → Rel (word x) (word (land.left v) ++ (X ∷ []))
  closing {x} {v} gx gv o c a r =
      let k = kept P There land plane gx a in
      let n : moves a ≡ land.last (land.corner x) = omega (arith, moves_place gx a, plane.opens_first x gx o, plane.closes_last v gv c ∙ ap land.last k.ends) in
      let u = valence kinds (type_of kinds d (word x)) in
      let e : rounds u ≡ rounds (moves a) ++ (L ∷ X ∷ []) = ap rounds (worded.valence_is x gx ∙ ap suc (sym n)) ∙ rounds_end (moves a) in
      let put : Rel (word x ++ []) (word x ++ (rounds u ++ [])) = related_loop kinds (word x) [] round_corner in
      let shape : word x ++ (rounds u ++ []) ≡ (word x ++ rounds (moves a)) ++ (L ∷ X ∷ []) = ap (λ z. word x ++ z) (append-nil (rounds u) ∙ e) ∙ sym (append_assoc (word x) (rounds (moves a)) (L ∷ X ∷ [])) in
      on (same (sym (append-nil (word x)))) (on put (on (same shape) (on (behind (L ∷ X ∷ []) r) (turned v (X ∷ []) gv))))

  -- across, from the crossing back
  crossing : {x y : P} → Rel (word x) (word y ++ (X ∷ [])) → Rel (word x ++ (X ∷ [])) (word y)
  crossing {x} {y} r =
      let put : Rel (word y ++ []) (word y ++ (X ∷ X ∷ [])) = related_loop kinds (word y) [] there_and_back in
      on (behind (X ∷ []) r) (on (same (append_assoc (word y) (X ∷ []) (X ∷ []))) (on (related_back kinds put) (same (append-nil (word y)))))

  -- a free way is so many times LX
  way_related : {x w : P} → There x → (a : W x w) → Rel (word x ++ rounds (moves a)) (word w)
  unfolding moves
  way_related {x} {w} g (stay e) = same (append-nil (word x) ∙ ap word e)
  way_related {x} {w} g (tree t r) =
      let gl = plane.there_left x g in
      on (moved x (land.hop (land.left x)) (rounds (moves r)) g (worded.of_hop (land.left x) gl t)) (way_related (plane.there_hop (land.left x) gl t) r)
  way_related {x} {w} g (nested v o a k b) =
      let gl = plane.there_left x g in
      let gv = there_at P There land plane gl a in
      on (moved x (land.left v) (rounds (moves b)) g (crossing (closing gl gv o k a (way_related gl a)))) (way_related (plane.there_left v gv) b)

  match_related : {x y : P} → There x → M x y → Rel (word x) (word y ++ (X ∷ []))
  match_related {x} {y} g m =
      let gv = there_last P There land plane g m in
      subst (λ p. Rel (word x) (word p ++ (X ∷ []))) m.turned (closing g gv m.opens (before_closes P There land plane m) m.way (way_related g m.way))

  -- the word of a place with X is related to the word of the place across
  pub across_related : {p q : P} → There p → Lies P There land p q → Rel (word p ++ (X ∷ [])) (word q)
  across_related {p} {q} g (in_tree t e) = subst (λ z. Rel (word p ++ (X ∷ [])) (word z)) e (worded.of_hop p g t)
  across_related g (leftwards m) = crossing (match_related g m)
  across_related g (rightwards gq m) = related_back kinds (match_related gq m)
