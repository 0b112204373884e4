-- Each opening side is matched with a closing side, and each closing side with an opening one, by induction on the weight.
use Rattle.std.proofs.Common.{◌≡◌, ℕ, zero, suc, ◌+◌, ◌*◌, ◌<◌, refl, sym, ap, ◌∙◌, subst, arith, pos, ◌+ℤ◌, ◌-ℤ◌, ◌*ℤ◌, ◌<ℤ◌}
use Rattle.std.proofs.lemmas.Int.{ints}
use Rattle.tree_model.specs.Contours.{Tree, Opens, Closes, FreeWay, stay, tree, nested, AreMatched}
use Rattle.tree_laws.specs.Plane.{Land, IsPlane}
use Rattle.tree_laws.proofs.Marks.{Which, its_tree, its_open, its_close, which}
use Rattle.tree_laws.proofs.Track.{Kept, tree_kept, nested_kept, kept, there_at}
use Rattle.tree_laws.proofs.Weights.{lighter, above_first}

module _ (P : Type 0) (There : P → Type 0) (land : Land P) (plane : IsPlane P There land) where
  abbrev K : ℕ → P → P → Type 0
  K = Kept P There land plane

  abbrev M : P → P → Type 0
  M = AreMatched P land.left land.hop land.mark

  abbrev W : P → P → Type 0
  W = FreeWay P land.left land.hop land.mark

  pub there_last : {x y : P} → There x → (m : M x y) → There m.last
  there_last g m = there_at P There land plane g m.way

  pub there_match : {x y : P} → There x → M x y → There y
  there_match g m = subst There m.turned (plane.there_left m.last (there_last g m))

  pub before_closes : {x y : P} (m : M x y) → land.mark (land.left m.last) ≡ Closes
  before_closes m = ap land.mark m.turned ∙ m.closes

  pub last_is : {x y : P} → There x → (m : M x y) → m.last ≡ land.right y
  last_is {x} {y} g m = sym (plane.right_left m.last (there_last g m)) ∙ ap land.right m.turned

  pub match_kept : {x y : P} → There x → (m : M x y) → K (land.corner x) x m.last
  match_kept g m = kept P There land plane g m.way

  -- the move over a nested side
  pub over_nested : {z y : P} → There z → M (land.left z) y → K (land.corner z) z y
  over_nested {z} {y} g m =
      let gl = plane.there_left z g in
      let k = nested_kept P There land plane z m.last g (there_last gl m) m.opens (before_closes m) (match_kept gl m) in
      subst (λ p. K (land.corner z) z p) m.turned k

  pub way_nested : {z y w : P} → M (land.left z) y → W y w → W z w
  way_nested {z} {y} {w} m b = nested m.last m.opens m.way (before_closes m) (subst (λ p. W p w) (sym m.turned) b)

  -- a way on to the last tile of the corner
  pub record Ahead (z : P) : Type 0 where
    pub stop : P
    pub way : W z stop
    pub closes : land.mark (land.left stop) ≡ Closes

  pub place_next : {z y : P} → There z → M (land.left z) y → land.place y ≡ suc (land.place z)
  place_next {z} {y} g m =
      let gl = plane.there_left z g in
      let k = match_kept gl m in
      let a : land.place (land.left m.last) ≡ suc (land.entry (land.corner (land.left z))) = plane.behind_place m.last (there_last gl m) (before_closes m) ∙ ap (λ n. suc (land.entry n)) k.ends in
      sym (ap land.place m.turned) ∙ a ∙ ap (λ n. suc n) (sym (plane.nested_place z g m.opens))

  pub starts_with : {z z1 : P} {g : ℕ} → land.corner z ≡ g → K (land.corner z) z z1 → K g z z1
  starts_with {z} {z1} c k = subst (λ n. K n z z1) c k

  module _ (g : ℕ) (Lv : P → Type 0) (keeps : (z z1 : P) → K g z z1 → Lv z → Lv z1) (inside : (z : P) → There z → land.corner z ≡ g → Lv z → land.mark (land.left z) ≡ Opens → (y : P) × M (land.left z) y) where
    ahead_step : (m : ℕ) → ((z : P) → There z → land.corner z ≡ g → land.place z + m ≡ land.last g → Lv z → Ahead z) → (z : P) → There z → land.corner z ≡ g → land.place z + suc m ≡ land.last g → Lv z → Which (land.mark (land.left z)) → Ahead z
    ahead_step m ih z gz c e l (its_tree t) =
        let k = starts_with c (tree_kept P There land plane z gz t) in
        let e' : land.place (land.hop (land.left z)) + m ≡ land.last g = omega (arith, plane.tree_place z gz t, e) in
        let r = ih (land.hop (land.left z)) (plane.there_hop (land.left z) (plane.there_left z gz) t) k.ends e' (keeps z (land.hop (land.left z)) k l) in
        record { stop = r.stop; way = tree t r.way; closes = r.closes }
    ahead_step m ih z gz c e l (its_open o) =
        let (y, my) = inside z gz c l o in
        let k = starts_with c (over_nested gz my) in
        let e' : land.place y + m ≡ land.last g = omega (arith, place_next gz my, e) in
        let r = ih y (there_match (plane.there_left z gz) my) k.ends e' (keeps z y k l) in
        record { stop = r.stop; way = way_nested my r.way; closes = r.closes }
    ahead_step m ih z gz c e l (its_close k) =
        let a : land.place z ≡ land.last g = plane.closes_last z gz k ∙ ap land.last c in
        absurd (omega (arith, a, e))

    pub ahead : (m : ℕ) (z : P) → There z → land.corner z ≡ g → land.place z + m ≡ land.last g → Lv z → Ahead z
    ahead zero z gz c e l =
        let e' : land.place z ≡ land.last (land.corner z) = omega (arith, e) ∙ ap land.last (sym c) in
        record { stop = z; way = stay refl; closes = plane.last_closes z gz e' }
    ahead (suc m) z gz c e l = ahead_step m (ahead m) z gz c e l (which (land.mark (land.left z)))

  pub record Behind (w : P) : Type 0 where
    pub start : P
    pub there : There start
    pub opens : land.mark start ≡ Opens
    pub way : W start w

  module _ (g : ℕ) (Lv : P → Type 0) (keeps : (z z1 : P) → K g z z1 → Lv z1 → Lv z) (inside : (z : P) → There z → land.corner z ≡ g → Lv z → land.mark z ≡ Closes → (x : P) × There x × M x z) where
    behind_step : (t : ℕ) → ((z w : P) → There z → land.corner z ≡ g → land.place z ≡ t → Lv z → W z w → Behind w) → (z w : P) → There z → land.corner z ≡ g → land.place z ≡ suc t → Lv z → W z w → Which (land.mark z) → Behind w
    behind_step t ih z w gz c e l b (its_tree m) =
        let gh = plane.there_hop z gz m in
        let e1 : land.left (land.right (land.hop z)) ≡ land.hop z = plane.left_right (land.hop z) gh in
        let gr = plane.there_right (land.hop z) gh in
        let m' : land.mark (land.left (land.right (land.hop z))) ≡ Tree = ap land.mark e1 ∙ plane.hop_tree z gz m in
        let e2 : land.hop (land.left (land.right (land.hop z))) ≡ z = ap land.hop e1 ∙ plane.hop_hop z gz m in
        let k0 = subst (λ p. K (land.corner (land.right (land.hop z))) (land.right (land.hop z)) p) e2 (tree_kept P There land plane (land.right (land.hop z)) gr m') in
        let c' : land.corner (land.right (land.hop z)) ≡ g = sym k0.ends ∙ c in
        let k = starts_with c' k0 in
        let e' : land.place (land.right (land.hop z)) ≡ t = omega (arith, plane.tree_place (land.right (land.hop z)) gr m', ap land.place e2, e) in
        ih (land.right (land.hop z)) w gr c' e' (keeps (land.right (land.hop z)) z k l) (tree m' (subst (λ p. W p w) (sym e2) b))
    behind_step t ih z w gz c e l b (its_open o) = absurd (omega (arith, plane.opens_first z gz o, e))
    behind_step t ih z w gz c e l b (its_close o) =
        let (x, gx, m) = inside z gz c l o in
        let e1 : land.left (land.right x) ≡ x = plane.left_right x gx in
        let gr = plane.there_right x gx in
        let m' = subst (λ p. M p z) (sym e1) m in
        let k0 = over_nested gr m' in
        let c' : land.corner (land.right x) ≡ g = sym k0.ends ∙ c in
        let e' : land.place (land.right x) ≡ t = omega (arith, place_next gr m', e) in
        ih (land.right x) w gr c' e' (keeps (land.right x) z (starts_with c' k0) l) (way_nested m' b)

    pub behind : (t : ℕ) (z w : P) → There z → land.corner z ≡ g → land.place z ≡ t → Lv z → W z w → Behind w
    behind zero z w gz c e l b = record { start = z; there = gz; opens = plane.first_opens z gz e; way = b }
    behind (suc t) z w gz c e l b = behind_step t (behind t) z w gz c e l b (which (land.mark z))

  -- the weight of a corner whose first tile has depth e
  abbrev pub weighs : ℕ → P → ℕ
  weighs e z = land.corner_count * e + land.rank (land.corner z)

  -- the entered offset, from the outer corner's side
  pub ranked_at : (z : P) (g t : ℕ) → There z → land.outer (land.corner z) ≡ g → land.entry (land.corner z) ≡ t → (pos (land.rank (land.corner z)) +ℤ (pos land.corner_count *ℤ land.offset g t)) <ℤ pos (land.rank g)
  ranked_at z g t there e f =
      let n = land.corner z in
      let r = subst (λ q. (pos (land.rank n) +ℤ (pos land.corner_count *ℤ land.offset q (land.entry n))) <ℤ pos (land.rank q)) e (plane.ranked z there) in
      subst (λ q. (pos (land.rank n) +ℤ (pos land.corner_count *ℤ land.offset g q)) <ℤ pos (land.rank g)) f r

  -- a nested side weighs less than the corner in which it is nested, whose first tile has depth e
  pub nested_lighter : (z : P) (e : ℕ) → There z → land.mark (land.left z) ≡ Opens → pos (land.depth z) ≡ pos e +ℤ land.offset (land.corner z) (land.place z) → weighs (land.depth (land.left z)) (land.left z) < weighs e z
  nested_lighter z e there opens level =
      let r = ranked_at (land.left z) (land.corner z) (land.place z) (plane.there_left z there) (sym (plane.nested_corner z there opens)) (sym (plane.nested_place z there opens)) in
      let l : pos e +ℤ land.offset (land.corner z) (land.place z) ≡ pos (land.depth (land.left z)) = sym level ∙ ap (λ d. pos d) (sym (plane.left_depth z there)) in
      lighter land.corner_count (land.depth (land.left z)) e (land.rank (land.corner (land.left z))) (land.rank (land.corner z)) (land.offset (land.corner z) (land.place z)) l r

  -- the weight of an opening side
  abbrev pub weight : P → ℕ
  weight x = weighs (land.depth x) x

  opened_under : (n : ℕ) → ((x : P) → There x → land.mark x ≡ Opens → weight x < n → (y : P) × M x y) → (x : P) → There x → land.mark x ≡ Opens → weight x < suc n → (y : P) × M x y
  opened_under n ih x gx o h =
      let g = land.corner x in
      let p0 : land.offset g (land.place x) ≡ pos 0 = ap (land.offset g) (plane.opens_first x gx o) ∙ plane.first_offset x gx in
      let r = ahead g (λ z. pos (land.depth z) ≡ pos (land.depth x) +ℤ land.offset g (land.place z))
      (λ z z1 k l. omega (arith, ints, k.level, l))
      (λ z gz c l o'.
      let l' : pos (land.depth z) ≡ pos (land.depth x) +ℤ land.offset (land.corner z) (land.place z) = l ∙ ap (λ q. pos (land.depth x) +ℤ land.offset q (land.place z)) (sym c) in
      let f = nested_lighter z (land.depth x) gz o' l' in
      ih (land.left z) (plane.there_left z gz) o' (omega (arith, f, h, ap land.rank c)))
      (land.last g) x gx refl (omega (arith, plane.opens_first x gx o)) (omega (arith, ints, p0)) in
      (land.left r.stop, record { opens = o; closes = r.closes; last = r.stop; way = r.way; turned = refl })

  opened_to : (n : ℕ) (x : P) → There x → land.mark x ≡ Opens → weight x < n → (y : P) × M x y
  opened_to zero x gx o h = absurd (omega (arith, h))
  opened_to (suc n) x gx o h = opened_under n (opened_to n) x gx o h

  -- an opening side is matched
  pub opened : (x : P) → There x → land.mark x ≡ Opens → (y : P) × M x y
  opened x gx o = opened_to (suc (weight x)) x gx o (omega arith)

  -- e is one more than the depth of the first tile of the corner before the closing side y
  abbrev Above : ℕ → P → Type 0
  Above e y = pos e +ℤ land.offset (land.corner (land.right y)) (land.last (land.corner (land.right y))) ≡ pos (suc (land.depth y))

  -- a nested closing side z, in a corner with number g whose last tile lies before y
  nested_lighter_back : (y z : P) (g e d : ℕ) → There z → land.mark z ≡ Closes → land.corner z ≡ g → pos e +ℤ land.offset g (land.last g) ≡ pos (suc (land.depth y)) → pos (land.depth z) +ℤ land.offset g (land.last g) ≡ pos (land.depth y) +ℤ land.offset g (land.place z) → Above d z → weighs d (land.right z) < land.corner_count * e + land.rank g
  nested_lighter_back y z g e d there closes corner above level above_z =
      let before = land.right z in
      let tb = plane.there_right z there in
      let n = land.corner before in
      let e1 : land.left before ≡ z = plane.left_right z there in
      let cl : land.mark (land.left before) ≡ Closes = ap land.mark e1 ∙ closes in
      let u1 : land.outer n ≡ g = sym (plane.behind_corner before tb cl) ∙ ap land.corner e1 ∙ corner in
      let u2 : suc (land.entry n) ≡ land.place z = sym (plane.behind_place before tb cl) ∙ ap land.place e1 in
      let c1 = subst (λ q. land.offset q (suc (land.entry n)) -ℤ land.offset q (land.entry n) ≡ land.offset n (land.last n)) u1 (plane.one_change before tb) in
      let c2 = subst (λ q. land.offset g q -ℤ land.offset g (land.entry n) ≡ land.offset n (land.last n)) u2 c1 in
      let r = ranked_at before g (land.entry n) tb u1 refl in
      let l : pos e +ℤ land.offset g (land.entry n) ≡ pos d = omega (arith, ints, above, level, above_z, c2) in
      lighter land.corner_count d e (land.rank n) (land.rank g) (land.offset g (land.entry n)) l r

  closed_under : (n : ℕ) → ((y : P) (e : ℕ) → There y → land.mark y ≡ Closes → Above e y → weighs e (land.right y) < n → (x : P) × There x × M x y) → (y : P) (e : ℕ) → There y → land.mark y ≡ Closes → Above e y → weighs e (land.right y) < suc n → (x : P) × There x × M x y
  closed_under n ih y e gy o above h =
      let gr = plane.there_right y gy in
      let g = land.corner (land.right y) in
      let e0 : land.left (land.right y) ≡ y = plane.left_right y gy in
      let cl : land.mark (land.left (land.right y)) ≡ Closes = ap land.mark e0 ∙ o in
      let p0 : land.place (land.right y) ≡ land.last g = plane.closes_last (land.right y) gr cl in
      let d0 : land.depth (land.right y) ≡ land.depth y = sym (plane.left_depth (land.right y) gr) ∙ ap land.depth e0 in
      let l0 : pos (land.depth (land.right y)) +ℤ land.offset g (land.last g) ≡ pos (land.depth y) +ℤ land.offset g (land.place (land.right y)) = omega (arith, ints, d0, ap (land.offset g) p0) in
      let r = behind g (λ z. pos (land.depth z) +ℤ land.offset g (land.last g) ≡ pos (land.depth y) +ℤ land.offset g (land.place z))
      (λ z z1 k l. omega (arith, ints, k.level, l))
      (λ z gz c l o'.
      let (d, above_z) = above_first (land.offset (land.corner (land.right z)) (land.last (land.corner (land.right z)))) (land.depth z) (plane.rises_little (land.right z) (plane.there_right z gz)) in
      let f = nested_lighter_back y z g e d gz o' c above l above_z in
      ih z d gz o' above_z (omega (arith, f, h)))
      (land.place (land.right y)) (land.right y) (land.right y) gr refl refl l0 (stay refl) in
      (r.start, r.there, record { opens = r.opens; closes = o; last = land.right y; way = r.way; turned = e0 })

  closed_to : (n : ℕ) (y : P) (e : ℕ) → There y → land.mark y ≡ Closes → Above e y → weighs e (land.right y) < n → (x : P) × There x × M x y
  closed_to zero y e gy o above h = absurd (omega (arith, h))
  closed_to (suc n) y e gy o above h = closed_under n (closed_to n) y e gy o above h

  -- a closing side is matched
  pub closed : (y : P) → There y → land.mark y ≡ Closes → (x : P) × There x × M x y
  closed y gy o =
      let (e, above) = above_first (land.offset (land.corner (land.right y)) (land.last (land.corner (land.right y)))) (land.depth y) (plane.rises_little (land.right y) (plane.there_right y gy)) in
      closed_to (suc (weighs e (land.right y))) y e gy o above (omega arith)
