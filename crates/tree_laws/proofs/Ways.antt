-- Matching is a function, and the same from both ends.
use Rattle.std.proofs.Common.{◌≡◌, ℕ, suc, ◌+◌, max, refl, sym, ap, ◌∙◌, subst, arith}
use mathlib.Core.Path.{path_j, subst_refl}
use Rattle.tree_model.specs.Contours.{Mark, Tree, Closes, mirrored, FreeWay, stay, tree, nested, AreMatched}
use Rattle.tree_laws.proofs.Marks.{tree_open, tree_closes, open_closes}

module _ (P : Type 0) (turn hop : P → P) (mark : P → Mark) where
  -- two ways from one place that both end before a closing side end at one place
  pub one_end : {x w w' : P} → FreeWay P turn hop mark x w → mark (turn w) ≡ Closes → FreeWay P turn hop mark x w' → mark (turn w') ≡ Closes → w ≡ w'
  one_end (stay e) c (stay e') c' = sym e ∙ e'
  one_end (stay e) c (tree t r) c' = absurd (tree_closes t (ap (λ p. mark (turn p)) e ∙ c))
  one_end (stay e) c (nested v o a k b) c' = absurd (open_closes o (ap (λ p. mark (turn p)) e ∙ c))
  one_end (tree t r) c (stay e') c' = absurd (tree_closes t (ap (λ p. mark (turn p)) e' ∙ c'))
  one_end (tree t r) c (tree t' r') c' = one_end r c r' c'
  one_end (tree t r) c (nested v o a k b) c' = absurd (tree_open t o)
  one_end (nested v o a k b) c (stay e') c' = absurd (open_closes o (ap (λ p. mark (turn p)) e' ∙ c'))
  one_end (nested v o a k b) c (tree t r) c' = absurd (tree_open t o)
  one_end {x} {w} {w'} (nested v o a k b) c (nested v' o' a' k' b') c' =
      let e = one_end a k a' k' in
      one_end b c (subst (λ p. FreeWay P turn hop mark (turn p) w') (sym e) b') c'

  pub one_match : {x y y' : P} → AreMatched P turn hop mark x y → AreMatched P turn hop mark x y' → y ≡ y'
  one_match m m' =
      let e = one_end m.way (ap mark m.turned ∙ m.closes) m'.way (ap mark m'.turned ∙ m'.closes) in
      sym m.turned ∙ ap turn e ∙ m'.turned

  -- ways are joined
  pub join : {x y z : P} → FreeWay P turn hop mark x y → FreeWay P turn hop mark y z → FreeWay P turn hop mark x z
  join {x} {y} {z} (stay e) b = subst (λ p. FreeWay P turn hop mark p z) (sym e) b
  join (tree t r) b = tree t (join r b)
  join (nested v o a k r) b = nested v o a k (join r b)

  -- moves of the walk with a counter, and how far the counter rises
  abbrev pub size : {x w : P} → FreeWay P turn hop mark x w → ℕ
  size (stay e) = 0
  size (tree t r) = suc (size r)
  size (nested v o a k b) = 2 + size a + size b

  abbrev pub high : {x w : P} → FreeWay P turn hop mark x w → ℕ
  high (stay e) = 0
  high (tree t r) = high r
  high (nested v o a k b) = max (suc (high a)) (high b)

  pub size_at : {x x' z : P} (e : x ≡ x') (b : FreeWay P turn hop mark x z) → size (subst (λ p. FreeWay P turn hop mark p z) e b) ≡ size b
  size_at {x} {x'} {z} e b = path_j (λ y q. size (subst (λ p. FreeWay P turn hop mark p z) q b) ≡ size b) (ap size (subst_refl (λ p. FreeWay P turn hop mark p z) b)) e

  pub high_at : {x x' z : P} (e : x ≡ x') (b : FreeWay P turn hop mark x z) → high (subst (λ p. FreeWay P turn hop mark p z) e b) ≡ high b
  high_at {x} {x'} {z} e b = path_j (λ y q. high (subst (λ p. FreeWay P turn hop mark p z) q b) ≡ high b) (ap high (subst_refl (λ p. FreeWay P turn hop mark p z) b)) e

  pub size_join : {x y z : P} (a : FreeWay P turn hop mark x y) (b : FreeWay P turn hop mark y z) → size (join a b) ≡ size a + size b
  unfolding join
  size_join (stay e) b = let q = size_at (sym e) b in omega (arith, q)
  size_join (tree t r) b = let q = size_join r b in omega (arith, q)
  size_join (nested v o a k r) b = let q = size_join r b in omega (arith, q)

  pub high_join : {x y z : P} (a : FreeWay P turn hop mark x y) (b : FreeWay P turn hop mark y z) → high (join a b) ≡ max (high a) (high b)
  unfolding join
  high_join (stay e) b = let q = high_at (sym e) b in omega (arith, q)
  high_join (tree t r) b = high_join r b
  high_join (nested v o a k r) b = let q = high_join r b in omega (arith, q)

module _ (P : Type 0) (left right hop : P → P) (mark : P → Mark) (There : P → Type 0) (back : (p : P) → There p → right (left p) ≡ p) (on : (p : P) → There p → There (left p)) (across : (p : P) → There p → mark p ≡ Tree → There (hop p)) (stays : (p : P) → There p → mark p ≡ Tree → mark (hop p) ≡ Tree) (twice : (p : P) → There p → mark p ≡ Tree → hop (hop p) ≡ p) where
  pub there_end : {x w : P} → There x → FreeWay P left hop mark x w → There w
  there_end g (stay e) = subst There e g
  there_end {x} {w} g (tree t r) = there_end (across (left x) (on x g) t) r
  there_end {x} {w} g (nested v o a k b) = there_end (on v (there_end (on x g) a)) b

  abbrev Back : P → P → Type 0
  Back = FreeWay P right hop (λ p. mirrored (mark p))

  pub mirror : {x w : P} → There x → FreeWay P left hop mark x w → Back (left w) (left x)
  mirror g (stay e) = stay (ap left (sym e))
  mirror {x} {w} g (tree t r) =
      let gl = on x g in
      let gh = across (left x) gl t in
      let e : right (left (hop (left x))) ≡ hop (left x) = back (hop (left x)) gh in
      let t' : mirrored (mark (right (left (hop (left x))))) ≡ Tree = ap (λ p. mirrored (mark p)) e ∙ ap mirrored (stays (left x) gl t) in
      join P right hop (λ p. mirrored (mark p)) (mirror gh r) (tree t' (stay (ap hop e ∙ twice (left x) gl t)))
  mirror {x} {w} g (nested v o a k b) =
      let gl = on x g in
      let gv = there_end gl a in
      let e1 = back (left v) (on v gv) in
      let e2 = back (left x) gl in
      join P right hop (λ p. mirrored (mark p)) (mirror (on v gv) b)
      (nested (left (left x)) (ap (λ p. mirrored (mark p)) e1 ∙ ap mirrored k)
      (subst (λ p. Back p (left (left x))) (sym e1) (mirror gl a))
      (ap (λ p. mirrored (mark p)) e2 ∙ ap mirrored o)
      (stay e2))

  pub match_mirrored : {x y : P} → There x → AreMatched P left hop mark x y → AreMatched P right hop (λ p. mirrored (mark p)) y x
  match_mirrored {x} {y} g m = record {
    opens = ap mirrored m.closes;
    closes = ap mirrored m.opens;
    last = left x;
    way = subst (λ p. Back p (left x)) m.turned (mirror g m.way);
    turned = back x g;
  }

  abbrev sizes_back : {x w : P} → Back x w → ℕ
  sizes_back = size P right hop (λ p. mirrored (mark p))

  abbrev highs_back : {x w : P} → Back x w → ℕ
  highs_back = high P right hop (λ p. mirrored (mark p))

  pub mirror_size : {x w : P} (g : There x) (a : FreeWay P left hop mark x w) → sizes_back (mirror g a) ≡ size P left hop mark a
  unfolding mirror
  mirror_size g (stay e) = refl
  mirror_size {x} {w} g (tree t r) =
      let gh = across (left x) (on x g) t in
      let q = mirror_size gh r in
      size_join P right hop (λ p. mirrored (mark p)) (mirror gh r) _ ∙ omega (arith, q)
  mirror_size {x} {w} g (nested v o a k b) =
      let gl = on x g in
      let gv = there_end gl a in
      let qa = mirror_size gl a in
      let qb = mirror_size (on v gv) b in
      let t = size_at P right hop (λ p. mirrored (mark p)) (sym (back (left v) (on v gv))) (mirror gl a) in
      size_join P right hop (λ p. mirrored (mark p)) (mirror (on v gv) b) _ ∙ omega (arith, qa, qb, t)

  pub mirror_high : {x w : P} (g : There x) (a : FreeWay P left hop mark x w) → highs_back (mirror g a) ≡ high P left hop mark a
  unfolding mirror
  mirror_high g (stay e) = refl
  mirror_high {x} {w} g (tree t r) =
      let gh = across (left x) (on x g) t in
      let q = mirror_high gh r in
      high_join P right hop (λ p. mirrored (mark p)) (mirror gh r) _ ∙ omega (arith, q)
  mirror_high {x} {w} g (nested v o a k b) =
      let gl = on x g in
      let gv = there_end gl a in
      let qa = mirror_high gl a in
      let qb = mirror_high (on v gv) b in
      let t = high_at P right hop (λ p. mirrored (mark p)) (sym (back (left v) (on v gv))) (mirror gl a) in
      high_join P right hop (λ p. mirrored (mark p)) (mirror (on v gv) b) _ ∙ omega (arith, qa, qb, t)

  pub mirrored_size : {x y : P} (g : There x) (m : AreMatched P left hop mark x y) → sizes_back (match_mirrored g m).way ≡ size P left hop mark m.way
  unfolding match_mirrored
  mirrored_size {x} {y} g m = size_at P right hop (λ p. mirrored (mark p)) m.turned (mirror g m.way) ∙ mirror_size g m.way

  pub mirrored_high : {x y : P} (g : There x) (m : AreMatched P left hop mark x y) → highs_back (match_mirrored g m).way ≡ high P left hop mark m.way
  unfolding match_mirrored
  mirrored_high {x} {y} g m = high_at P right hop (λ p. mirrored (mark p)) m.turned (mirror g m.way) ∙ mirror_high g m.way
