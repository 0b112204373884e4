-- Exactly one place lies across each place, and it lies across in turn.
use Rattle.std.proofs.Common.{◌≡◌, ℕ, suc, ◌+◌, ◌-◌, refl, sym, ap, ◌∙◌, subst, arith}
use Rattle.tree_model.specs.Contours.{Tree, mirrored, FreeWay, stay, tree, nested, AreMatched}
use Rattle.tree_laws.specs.Plane.{Land, IsPlane}
use Rattle.tree_laws.proofs.Marks.{tree_open, tree_closes, open_closes, Which, its_tree, its_open, its_close, which}
use Rattle.tree_laws.proofs.Ways.{join, one_match, match_mirrored}
use Rattle.tree_laws.proofs.Track.{kept, there_at}
use Rattle.tree_laws.proofs.Ends.{opened, closed, ahead, behind, there_match, place_next}

-- place q lies across place p
pub data Lies (P : Type 0) (There : P → Type 0) (land : Land P) (p q : P) : Type 0 where
  in_tree : land.mark p ≡ Tree → land.hop p ≡ q → Lies P There land p q
  leftwards : AreMatched P land.left land.hop land.mark p q → Lies P There land p q
  rightwards : There q → AreMatched P land.left land.hop land.mark q p → Lies P There land p q

-- n turns to the left, with a crossing after each
pub data Round (P : Type 0) (There : P → Type 0) (land : Land P) : ℕ → P → P → Type 0 where
  at_end : {n : ℕ} {p q : P} → n ≡ 0 → p ≡ q → Round P There land n p q
  turns : {n : ℕ} {p q : P} (i : ℕ) (m : P) → n ≡ suc i → Lies P There land (land.left p) m → Round P There land i m q → Round P There land n p q

module _ (P : Type 0) (There : P → Type 0) (land : Land P) (plane : IsPlane P There land) where
  abbrev M : P → P → Type 0
  M = AreMatched P land.left land.hop land.mark

  abbrev W : P → P → Type 0
  W = FreeWay P land.left land.hop land.mark

  abbrev X : P → P → Type 0
  X = Lies P There land

  abbrev O : ℕ → P → P → Type 0
  O = Round P There land

  abbrev turned_round : {x y : P} → There x → M x y → AreMatched P land.right land.hop (λ p. mirrored (land.mark p)) y x
  turned_round = match_mirrored P land.left land.right land.hop land.mark There plane.right_left plane.there_left plane.there_hop plane.hop_tree plane.hop_hop

  -- an opening side is matched with one closing side
  pub one_close : {x y y' : P} → M x y → M x y' → y ≡ y'
  one_close = one_match P land.left land.hop land.mark

  -- a closing side is matched with one opening side
  pub one_open : {x x' y : P} → There x → There x' → M x y → M x' y → x ≡ x'
  one_open g g' m m' = one_match P land.right land.hop (λ p. mirrored (land.mark p)) (turned_round g m) (turned_round g' m')

  some_by : (p : P) → There p → Which (land.mark p) → (q : P) × There q × X p q
  some_by p g (its_tree t) = (land.hop p, plane.there_hop p g t, in_tree t refl)
  some_by p g (its_open o) = let (y, m) = opened P There land plane p g o in (y, there_match P There land plane g m, leftwards m)
  some_by p g (its_close c) = let (x, gx, m) = closed P There land plane p g c in (x, gx, rightwards gx m)

  pub some : (p : P) → There p → (q : P) × There q × X p q
  some p g = some_by p g (which (land.mark p))

  pub one : {p q q' : P} → X p q → X p q' → q ≡ q'
  one (in_tree t e) (in_tree t' e') = sym e ∙ e'
  one (in_tree t e) (leftwards m) = absurd (tree_open t m.opens)
  one (in_tree t e) (rightwards g m) = absurd (tree_closes t m.closes)
  one (leftwards m) (in_tree t e) = absurd (tree_open t m.opens)
  one (leftwards m) (leftwards m') = one_close m m'
  one (leftwards m) (rightwards g m') = absurd (open_closes m.opens m'.closes)
  one (rightwards g m) (in_tree t e) = absurd (tree_closes t m.closes)
  one (rightwards g m) (leftwards m') = absurd (open_closes m'.opens m.closes)
  one (rightwards g m) (rightwards g' m') = one_open g g' m m'

  pub back : {p q : P} → There p → X p q → X q p
  back {p} {q} g (in_tree t e) = in_tree (ap land.mark (sym e) ∙ plane.hop_tree p g t) (ap land.hop (sym e) ∙ plane.hop_hop p g t)
  back {p} {q} g (leftwards m) = rightwards g m
  back {p} {q} g (rightwards g' m) = leftwards m

  pub there_across : {p q : P} → There p → X p q → There q
  there_across {p} {q} g (in_tree t e) = subst There e (plane.there_hop p g t)
  there_across g (leftwards m) = there_match P There land plane g m
  there_across g (rightwards g' m) = g'

  then : {m n : ℕ} {p q r : P} → O m p q → O n q r → O (m + n) p r
  then {m} {n} {p} {q} {r} (at_end z e) b = subst (λ k. O k p r) (omega (arith, z)) (subst (λ x. O n x r) (sym e) b)
  then {m} {n} {p} {q} {r} (turns i x z a rest) b = turns (i + n) x (omega (arith, z)) a (then rest b)

  -- the moves of a free way, told by the places
  pub record Steps (x w : P) : Type 0 where
    pub count : ℕ
    pub place_is : land.place w ≡ land.place x + count
    pub round : O count x w

  one_step : {x y w : P} → X (land.left x) y → land.place y ≡ suc (land.place x) → Steps y w → Steps x w
  one_step {x} {y} {w} a e s = record { count = suc s.count; place_is = omega (arith, e, s.place_is); round = turns s.count y refl a s.round }

  pub steps : {x w : P} → There x → W x w → Steps x w
  steps g (stay e) = record { count = 0; place_is = omega (arith, ap land.place e); round = at_end refl e }
  steps {x} {w} g (tree t r) = one_step (in_tree t refl) (plane.tree_place x g t) (steps (plane.there_hop (land.left x) (plane.there_left x g) t) r)
  steps {x} {w} g (nested v o a k b) =
      let gl = plane.there_left x g in
      let gv = there_at P There land plane gl a in
      let m : M (land.left x) (land.left v) = record { opens = o; closes = k; last = v; way = a; turned = refl } in
      one_step (leftwards m) (place_next P There land plane g m) (steps (plane.there_left v gv) b)

  -- going round a corner leads back
  pub round : (p : P) → There p → O (suc (land.last (land.corner p))) p p
  round p gp =
      let g = land.corner p in
      let r = behind P There land plane g (λ z. Unit {0}) (λ z y k l. tt) (λ z gz c l o. closed P There land plane z gz o) (land.place p) p p gp refl refl tt (stay refl) in
      let within = plane.within p gp in
      let rest : ℕ = land.last g - land.place p in
      let e : land.place p + rest ≡ land.last g = omega (arith, within) in
      let a = ahead P There land plane g (λ z. Unit {0}) (λ z y k l. tt) (λ z gz c l o. opened P There land plane (land.left z) (plane.there_left z gz) o) rest p gp refl e tt in
      let m : M r.start (land.left a.stop) = record { opens = r.opens; closes = a.closes; last = a.stop; way = join P land.left land.hop land.mark r.way a.way; turned = refl } in
      let s = steps r.there r.way in
      let t = steps gp a.way in
      let k = kept P There land plane gp a.way in
      let ga = there_at P There land plane gp a.way in
      let fin : land.place a.stop ≡ land.last g = plane.closes_last a.stop ga a.closes ∙ ap land.last k.ends in
      let first = plane.opens_first r.start r.there r.opens in
      let n : t.count + suc s.count ≡ suc (land.last g) = omega (arith, s.place_is, t.place_is, fin, first) in
      subst (λ i. O i p p) n (then t.round (turns s.count r.start refl (rightwards r.there m) s.round))
