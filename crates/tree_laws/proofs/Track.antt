-- Along a free way the corner stays, and place and depth keep in step.
use Rattle.std.proofs.Common.{◌≡◌, ℕ, suc, ◌+◌, refl, sym, ap, ◌∙◌, subst, arith, pos, ◌+ℤ◌}
use Rattle.std.proofs.lemmas.Int.{ints}
use Rattle.tree_model.specs.Contours.{Tree, Opens, Closes, FreeWay, stay, tree, nested}
use Rattle.tree_laws.specs.Plane.{Land, IsPlane}
use Rattle.tree_laws.proofs.Ways.{there_end}

module _ (P : Type 0) (There : P → Type 0) (land : Land P) (plane : IsPlane P There land) where
  pub record Kept (g : ℕ) (x w : P) : Type 0 where
    pub starts : land.corner x ≡ g
    pub ends : land.corner w ≡ g
    pub more : ℕ
    pub on : land.place w ≡ land.place x + more
    pub level : pos (land.depth w) +ℤ land.offset g (land.place x) ≡ pos (land.depth x) +ℤ land.offset g (land.place w)

  pub kept_trans : {g : ℕ} {x y z : P} → Kept g x y → Kept g y z → Kept g x z
  kept_trans a b = record { starts = a.starts; ends = b.ends; more = a.more + b.more; on = omega (arith, a.on, b.on); level = omega (arith, ints, a.level, b.level) }

  pub tree_kept : (z : P) → There z → land.mark (land.left z) ≡ Tree → Kept (land.corner z) z (land.hop (land.left z))
  tree_kept z g t =
      let e = plane.tree_place z g t in
      record { starts = refl; ends = plane.tree_corner z g t; more = 1; on = omega (arith, e); level = plane.tree_depth z g t ∙ ap (λ n. pos (land.depth z) +ℤ land.offset (land.corner z) n) (sym e) }

  -- an inner corner, from its opening side to the place before its closing side
  pub inner : (x w : P) → There x → There w → land.mark x ≡ Opens → land.mark (land.left w) ≡ Closes → Kept (land.corner x) x w → pos (land.depth (land.left w)) ≡ pos (land.depth x) +ℤ land.offset (land.corner x) (land.last (land.corner x))
  inner x w gx gw o c k =
      let e1 = ap (land.offset (land.corner x)) (plane.opens_first x gx o) ∙ plane.first_offset x gx in
      let e2 = ap (land.offset (land.corner x)) (plane.closes_last w gw c ∙ ap land.last k.ends) in
      omega (arith, ints, e1, e2, k.level, plane.left_depth w gw)

  pub nested_kept : (z w : P) → There z → There w → land.mark (land.left z) ≡ Opens → land.mark (land.left w) ≡ Closes → Kept (land.corner (land.left z)) (land.left z) w → Kept (land.corner z) z (land.left w)
  nested_kept z w gz gw o c k =
      let gl = plane.there_left z gz in
      let n = land.corner (land.left z) in
      let e1 : land.corner z ≡ land.outer n = plane.nested_corner z gz o in
      let e2 : land.place z ≡ land.entry n = plane.nested_place z gz o in
      let e3 : land.corner (land.left w) ≡ land.outer n = plane.behind_corner w gw c ∙ ap land.outer k.ends in
      let e4 : land.place (land.left w) ≡ suc (land.entry n) = plane.behind_place w gw c ∙ ap (λ g. suc (land.entry g)) k.ends in
      let a : land.offset (land.corner z) (land.place z) ≡ land.offset (land.outer n) (land.entry n) = ap (λ g. land.offset g (land.place z)) e1 ∙ ap (land.offset (land.outer n)) e2 in
      let b : land.offset (land.corner z) (land.place (land.left w)) ≡ land.offset (land.outer n) (suc (land.entry n)) = ap (λ g. land.offset g (land.place (land.left w))) e1 ∙ ap (land.offset (land.outer n)) e4 in
      record { starts = refl; ends = e3 ∙ sym e1; more = 1; on = omega (arith, e2, e4); level = omega (arith, ints, a, b, inner (land.left z) w gl gw o c k, plane.one_change (land.left z) gl, plane.left_depth z gz) }

  abbrev pub there_at : {x w : P} → There x → FreeWay P land.left land.hop land.mark x w → There w
  there_at = there_end P land.left land.right land.hop land.mark There plane.right_left plane.there_left plane.there_hop plane.hop_tree plane.hop_hop

  from : {g : ℕ} {x y z : P} → Kept g x y → Kept (land.corner y) y z → Kept g x z
  from {g} {x} {y} {z} a b = kept_trans a (subst (λ c. Kept c y z) a.ends b)

  pub kept : {x w : P} → There x → FreeWay P land.left land.hop land.mark x w → Kept (land.corner x) x w
  kept {x} {w} g (stay e) = record { starts = refl; ends = ap land.corner (sym e); more = 0; on = omega (arith, ap land.place e); level = in_step (ap land.depth (sym e)) (ap (λ p. land.offset (land.corner x) (land.place p)) e) }
    where
      in_step : land.depth w ≡ land.depth x → land.offset (land.corner x) (land.place x) ≡ land.offset (land.corner x) (land.place w) → pos (land.depth w) +ℤ land.offset (land.corner x) (land.place x) ≡ pos (land.depth x) +ℤ land.offset (land.corner x) (land.place w)
      in_step a b = omega (arith, ints, a, b)
  kept {x} {w} g (tree t r) = from (tree_kept x g t) (kept (plane.there_hop (land.left x) (plane.there_left x g) t) r)
  kept {x} {w} g (nested v o a k b) =
      let gl = plane.there_left x g in
      let gv = there_at gl a in
      from (nested_kept x v g gv o k (kept gl a)) (kept (plane.there_left v gv) b)
