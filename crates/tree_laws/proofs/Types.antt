-- The types of two sides that lie across from each other are partners.
use Rattle.std.proofs.Common.{◌≡◌, ℕ, zero, suc, ◌+◌, refl, sym, ap, ◌∙◌, arith}
use Rattle.tree_model.specs.Contours.{Tree, Opens, Closes, FreeWay, stay, tree, nested, AreMatched}
use Rattle.tree_laws.specs.Plane.{Land, IsPlane}
use Rattle.tree_laws.proofs.Across.{Lies, in_tree, leftwards, rightwards}
use Rattle.tree_laws.proofs.Track.{kept, there_at}
use Rattle.tree_laws.proofs.Ends.{there_last, before_closes, place_next}

-- a map, n times
abbrev pub iterated : (D : Type 0) (f : D → D) → ℕ → D → D
iterated D f zero t = t
iterated D f (suc n) t = f (iterated D f n t)

iterated_first : (D : Type 0) (f : D → D) (n : ℕ) (t : D) → iterated D f n (f t) ≡ f (iterated D f n t)
iterated_first D f zero t = refl
iterated_first D f (suc n) t = ap f (iterated_first D f n t)

-- The type of each place is known after a turn and after a side of the tree, partners are mutual, and going round a corner leads back.
pub record AreTyped (P : Type 0) (There : P → Type 0) (land : Land P) (D : Type 0) (left cross : D → D) (type : P → D) : Type 0 where
  pub of_left : (p : P) → There p → type (land.left p) ≡ left (type p)
  pub of_hop : (p : P) → There p → land.mark p ≡ Tree → type (land.hop p) ≡ cross (type p)
  pub partners : (p : P) → There p → cross (cross (type p)) ≡ type p
  pub round : (p : P) → There p → iterated D (λ t. cross (left t)) (suc (land.last (land.corner p))) (type p) ≡ type p

module _ (P : Type 0) (There : P → Type 0) (land : Land P) (plane : IsPlane P There land) (D : Type 0) (left cross : D → D) (type : P → D) (typed : AreTyped P There land D left cross type) where
  abbrev W : P → P → Type 0
  W = FreeWay P land.left land.hop land.mark

  abbrev M : P → P → Type 0
  M = AreMatched P land.left land.hop land.mark

  abbrev go : D → D
  go t = cross (left t)

  moves : {x w : P} → W x w → ℕ
  moves (stay e) = 0
  moves (tree t r) = suc (moves r)
  moves (nested v o a k b) = suc (moves b)

  moves_place : {x w : P} → There x → (a : W x w) → land.place w ≡ land.place x + moves a
  unfolding moves
  moves_place g (stay e) = omega (arith, ap land.place e)
  moves_place {x} {w} g (tree t r) = omega (arith, plane.tree_place x g t, moves_place (plane.there_hop (land.left x) (plane.there_left x g) t) r)
  moves_place {x} {w} g (nested v o a k b) =
      let gl = plane.there_left x g in
      let gv = there_at P There land plane gl a in
      let m : M (land.left x) (land.left v) = record { opens = o; closes = k; last = v; way = a; turned = refl } in
      omega (arith, place_next P There land plane g m, moves_place (plane.there_left v gv) b)

  -- the opening side is the partner of the closing side
  closing : {x v : P} → There x → There v → land.mark x ≡ Opens → land.mark (land.left v) ≡ Closes → (a : W x v) → type v ≡ iterated D go (moves a) (type x) → type x ≡ cross (type (land.left v))
  closing {x} {v} gx gv o c a e =
      let k = kept P There land plane gx a in
      let n : moves a ≡ land.last (land.corner x) = omega (arith, moves_place gx a, plane.opens_first x gx o, plane.closes_last v gv c ∙ ap land.last k.ends) in
      sym (typed.round x gx) ∙ ap (λ i. iterated D go (suc i) (type x)) (sym n) ∙ ap go (sym e) ∙ ap cross (sym (typed.of_left v gv))

  -- each move of a free way goes once round
  way_type : {x w : P} → There x → (a : W x w) → type w ≡ iterated D go (moves a) (type x)
  unfolding moves
  way_type g (stay e) = ap type (sym e)
  way_type {x} {w} g (tree t r) =
      let gl = plane.there_left x g in
      let e : type (land.hop (land.left x)) ≡ go (type x) = typed.of_hop (land.left x) gl t ∙ ap cross (typed.of_left x g) in
      way_type (plane.there_hop (land.left x) gl t) r ∙ ap (iterated D go (moves r)) e ∙ iterated_first D go (moves r) (type x)
  way_type {x} {w} g (nested v o a k b) =
      let gl = plane.there_left x g in
      let gv = there_at P There land plane gl a in
      let c = closing gl gv o k a (way_type gl a) in
      let e : type (land.left v) ≡ go (type x) = sym (typed.partners (land.left v) (plane.there_left v gv)) ∙ ap cross (sym c) ∙ ap cross (typed.of_left x g) in
      way_type (plane.there_left v gv) b ∙ ap (iterated D go (moves b)) e ∙ iterated_first D go (moves b) (type x)

  match_type : {x y : P} → There x → M x y → type x ≡ cross (type y)
  match_type {x} {y} g m =
      let gv = there_last P There land plane g m in
      closing g gv m.opens (before_closes P There land plane m) m.way (way_type g m.way) ∙ ap (λ p. cross (type p)) m.turned

  pub across_type : {p q : P} → There p → There q → Lies P There land p q → type q ≡ cross (type p)
  across_type {p} {q} g gq (in_tree t e) = ap type (sym e) ∙ typed.of_hop p g t
  across_type {p} {q} g gq (leftwards m) = sym (typed.partners q gq) ∙ ap cross (sym (match_type g m))
  across_type {p} {q} g gq (rightwards g' m) = match_type g' m
