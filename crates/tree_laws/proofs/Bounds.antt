-- How many moves the walk along a free way takes, and how far its counter rises: both are bounded by the weight of its start.
use Rattle.std.proofs.Common.{◌≡◌, ℕ, zero, suc, ◌+◌, ◌-◌, ◌*◌, ◌≤◌, ◌<◌, refl, sym, ap, ◌∙◌, subst, arith, pos, ◌+ℤ◌, mul-le-mul_right, mul-le-mul_left, le_of_eq}
use Rattle.std.proofs.lemmas.Int.{ints}
use Rattle.tree_model.specs.Contours.{Mark, Opens, Closes, mirrored, FreeWay, stay, tree, nested, AreMatched}
use Rattle.tree_laws.specs.Plane.{Land, IsPlane}
use Rattle.tree_laws.specs.Machine.{Halts, most_moves}
use Rattle.tree_laws.proofs.Ways.{size, high, match_mirrored, mirrored_size, mirrored_high}
use Rattle.tree_laws.proofs.Track.{Kept, kept, there_at, tree_kept, nested_kept, inner}
use Rattle.tree_laws.proofs.Ends.{last_is, nested_lighter, there_last, before_closes, match_kept, place_next, weighs}
use Rattle.tree_laws.proofs.Runs.{halts}

most_moves_up : (n d : ℕ) → most_moves n ≤ most_moves (d + n)
most_moves_up n zero = let e : n ≡ 0 + n = omega arith in le_of_eq (ap most_moves e)
most_moves_up n (suc d) = let h = most_moves_up n d in let e : suc d + n ≡ suc (d + n) = omega arith in subst (λ k. most_moves n ≤ most_moves k) (sym e) (omega (arith, h))

pub most_moves_grow : (n m : ℕ) → n ≤ m → most_moves n ≤ most_moves m
most_moves_grow n m h = subst (λ k. most_moves n ≤ most_moves k) (omega (arith, h)) (most_moves_up n (m - n))

module _ (P : Type 0) (There : P → Type 0) (land : Land P) (plane : IsPlane P There land) where
  abbrev W : P → P → Type 0
  W = FreeWay P land.left land.hop land.mark

  abbrev M : P → P → Type 0
  M = AreMatched P land.left land.hop land.mark

  abbrev S : {x w : P} → W x w → ℕ
  S = size P land.left land.hop land.mark

  abbrev H : {x w : P} → W x w → ℕ
  H = high P land.left land.hop land.mark

  abbrev Weighs : ℕ → P → ℕ
  Weighs = weighs P There land plane

  -- a way in a corner of weight n at most
  record Small (n : ℕ) {z w : P} (a : W z w) : Type 0 where
    by : S a + land.place z * (2 + most_moves n) ≤ land.place w * (2 + most_moves n)
    low : H a ≤ n

  -- the first tile of the corner has depth e
  abbrev Sits : ℕ → P → Type 0
  Sits e z = pos (land.depth z) ≡ pos e +ℤ land.offset (land.corner z) (land.place z)

  moved : (e : ℕ) {z y : P} → Kept P There land plane (land.corner z) z y → Sits e z → Sits e y
  moved e {z} {y} k l =
      let c : land.offset (land.corner y) (land.place y) ≡ land.offset (land.corner z) (land.place y) = ap (λ q. land.offset q (land.place y)) k.ends in
      omega (arith, ints, k.level, l, c)

  sits : (x : P) → There x → land.mark x ≡ Opens → Sits (land.depth x) x
  sits x g o = omega (arith, ints, ap (land.offset (land.corner x)) (plane.opens_first x g o), plane.first_offset x g)

  step_small : (q p p1 pw s : ℕ) → p1 ≡ suc p → s + p1 * q ≤ pw * q → q + s + p * q ≤ pw * q
  step_small q p p1 pw s e h =
      let m : p1 * q ≡ suc p * q = ap (λ i. i * q) e in
      let m1 : suc p * q ≡ q + p * q = omega arith in
      omega (arith, h, m, m1)

  filled : (n p s : ℕ) → p ≤ 63 → s ≤ p * (2 + most_moves n) → s ≤ most_moves (suc n)
  filled n p s h i =
      let m : p * (2 + most_moves n) ≤ 63 * (2 + most_moves n) = mul-le-mul_right (2 + most_moves n) h in
      omega (arith, m, i)

  nothing : (q p : ℕ) → p ≡ 0 → p * q ≡ 0
  nothing q p e = let z : 0 * q ≡ 0 = omega arith in ap (λ i. i * q) e ∙ z

  last_few : (v : P) → There v → land.mark (land.left v) ≡ Closes → land.place v ≤ 63
  last_few v g c = omega (arith, plane.closes_last v g c, plane.few v g)

  nested_fits : (e : ℕ) {x w : P} (v : P) (o : land.mark (land.left x) ≡ Opens) (a : W (land.left x) v) (k : land.mark (land.left v) ≡ Closes) (b : W (land.left v) w) (n : ℕ) → Weighs e x ≤ n → Weighs (land.depth (land.left x)) (land.left x) < Weighs e x → ((m : ℕ) → Weighs (land.depth (land.left x)) (land.left x) ≤ m → Small m a) → Small n b → land.place (land.left x) ≡ 0 → land.place v ≤ 63 → land.place (land.left v) ≡ suc (land.place x) → Small n {z = x} {w = w} (nested v o a k b)
  nested_fits e {x} {w} v o a k b zero h f i j p0 pv pn = absurd (omega (arith, h, f))
  nested_fits e {x} {w} v o a k b (suc m) h f i j p0 pv pn =
      let ia = i m (omega (arith, h, f)) in
      let sa : S a ≤ most_moves (suc m) = filled m (land.place v) (S a) pv (omega (arith, ia.by, nothing (2 + most_moves m) (land.place (land.left x)) p0)) in
      let st = step_small (2 + most_moves (suc m)) (land.place x) (land.place (land.left v)) (land.place w) (S b) pn j.by in
      record { by = omega (arith, st, sa); low = omega (arith, ia.low, j.low) }

  nested_small : (n e : ℕ) {x w : P} (g : There x) (v : P) (o : land.mark (land.left x) ≡ Opens) (a : W (land.left x) v) (k : land.mark (land.left v) ≡ Closes) (b : W (land.left v) w) → ((m : ℕ) → Sits (land.depth (land.left x)) (land.left x) → Weighs (land.depth (land.left x)) (land.left x) ≤ m → Small m a) → (Sits e (land.left v) → Weighs e (land.left v) ≤ n → Small n b) → Sits e x → Weighs e x ≤ n → Small n {z = x} {w = w} (nested v o a k b)
  nested_small n e {x} {w} g v o a k b iha ihb l h =
      let gl = plane.there_left x g in
      let gv = there_at P There land plane gl a in
      let kn = nested_kept P There land plane x v g gv o k (kept P There land plane gl a) in
      let f = nested_lighter P There land plane x e g o l in
      let m : M (land.left x) (land.left v) = record { opens = o; closes = k; last = v; way = a; turned = refl } in
      let wb : Weighs e (land.left v) ≤ n = omega (arith, h, ap land.rank kn.ends) in
      nested_fits e v o a k b n h f (λ i. iha i (sits (land.left x) gl o)) (ihb (moved e kn l) wb) (plane.opens_first (land.left x) gl o) (last_few v gv k) (place_next P There land plane g m)

  sizes : (n e : ℕ) {z w : P} → There z → (a : W z w) → Sits e z → Weighs e z ≤ n → Small n a
  sizes n e {z} {w} g (stay q) l h = record { by = omega (arith, ap (λ p. land.place p * (2 + most_moves n)) q); low = omega arith }
  sizes n e {z} {w} g (tree t r) l h =
      let k = tree_kept P There land plane z g t in
      let ih = sizes n e (plane.there_hop (land.left z) (plane.there_left z g) t) r (moved e k l) (omega (arith, h, ap land.rank k.ends)) in
      let st = step_small (2 + most_moves n) (land.place z) (land.place (land.hop (land.left z))) (land.place w) (S r) (plane.tree_place z g t) ih.by in
      record { by = omega (arith, st); low = ih.low }
  sizes n e {z} {w} g (nested v o a k b) l h =
      let gl = plane.there_left z g in
      let gv = there_at P There land plane gl a in
      nested_small n e g v o a k b (λ m s i. sizes m (land.depth (land.left z)) gl a s i) (λ s i. sizes n e (plane.there_left v gv) b s i) l h

  -- the moves from an opening side to the matched one, and the rise of the counter
  pub bounded : {x y : P} → There x → (m : M x y) → (S m.way ≤ most_moves (suc (Weighs (land.depth x) x))) × (H m.way ≤ Weighs (land.depth x) x)
  bounded {x} {y} g m =
      let n = Weighs (land.depth x) x in
      let r = sizes n (land.depth x) g m.way (sits x g m.opens) (omega arith) in
      let pv = last_few m.last (there_last P There land plane g m) (before_closes P There land plane m) in
      (filled n (land.place m.last) (S m.way) pv (omega (arith, r.by, nothing (2 + most_moves n) (land.place x) (plane.opens_first x g m.opens))), r.low)

  -- the depths of two matched sides differ by one at most
  pub match_depth : {x y : P} → There x → M x y → (land.depth y ≤ suc (land.depth x)) × (land.depth x ≤ suc (land.depth y))
  match_depth {x} {y} g m =
      let gv = there_last P There land plane g m in
      let i = inner P There land plane x m.last g gv m.opens (before_closes P There land plane m) (match_kept P There land plane g m) in
      let d : land.depth (land.left m.last) ≡ land.depth y = ap land.depth m.turned in
      (omega (arith, ints, i, d, plane.rises_little x g), omega (arith, ints, i, d, plane.falls_little x g))

  -- the bounds, seen from an opening and from a closing side
  abbrev pub limit : ℕ → ℕ → ℕ
  limit d g = suc (land.corner_count * suc d + land.rank g)

  pub record Reaches (turn : P → P) (mark : P → Mark) (most : ℕ) (p q : P) : Type 0 where
    pub moves : ℕ
    pub few : moves ≤ most_moves most
    pub halts : Halts P turn land.hop mark most moves p 1 q

  -- from an opening side
  pub forwards : {x y : P} → There x → M x y → Reaches land.left land.mark (limit (land.depth x) (land.corner x)) x y
  forwards {x} {y} g m =
      let (s, h) = bounded g m in
      let most = limit (land.depth x) (land.corner x) in
      let u : land.corner_count * suc (land.depth x) ≡ land.corner_count * land.depth x + land.corner_count = omega arith in
      let w : suc (Weighs (land.depth x) x) ≤ most = omega (arith, u) in
      record { moves = S m.way; few = omega (arith, s, most_moves_grow (suc (Weighs (land.depth x) x)) most w); halts = halts P land.left land.hop land.mark m most (omega (arith, h, w)) }

  -- from a closing side
  pub backwards : {x y : P} → There x → M x y → Reaches land.right (λ p. mirrored (land.mark p)) (limit (land.depth y) (land.corner (land.right y))) y x
  backwards {x} {y} g m =
      let (s, h) = bounded g m in
      let most = limit (land.depth y) (land.corner (land.right y)) in
      let r = last_is P There land plane g m in
      let k = match_kept P There land plane g m in
      let c : land.rank (land.corner (land.right y)) ≡ land.rank (land.corner x) = ap land.rank (sym (ap land.corner r) ∙ k.ends) in
      let u : land.corner_count * land.depth x ≤ land.corner_count * suc (land.depth y) = mul-le-mul_left land.corner_count (match_depth g m).1 in
      let w : suc (Weighs (land.depth x) x) ≤ most = omega (arith, u, c) in
      let mm = match_mirrored P land.left land.right land.hop land.mark There plane.right_left plane.there_left plane.there_hop plane.hop_tree plane.hop_hop g m in
      let sz = mirrored_size P land.left land.right land.hop land.mark There plane.right_left plane.there_left plane.there_hop plane.hop_tree plane.hop_hop g m in
      let hg = mirrored_high P land.left land.right land.hop land.mark There plane.right_left plane.there_left plane.there_hop plane.hop_tree plane.hop_hop g m in
      record { moves = size P land.right land.hop (λ p. mirrored (land.mark p)) mm.way; few = omega (arith, s, sz, most_moves_grow (suc (Weighs (land.depth x) x)) most w); halts = halts P land.right land.hop (λ p. mirrored (land.mark p)) mm most (omega (arith, h, w, hg)) }
