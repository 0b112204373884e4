-- Each opening side has a heavier one further out, at place 0 of its outer corner. So there are opening sides of any weight.
use Rattle.std.proofs.Common.{◌≡◌, ℕ, zero, suc, ◌+◌, ◌*◌, ◌≤◌, refl, ap, ◌∙◌, arith, pos, ◌+ℤ◌}
use Rattle.std.proofs.lemmas.Int.{ints}
use Rattle.tree_model.specs.Contours.{Opens, stay}
use Rattle.tree_laws.specs.Plane.{Land, IsPlane}
use Rattle.tree_laws.proofs.Track.{kept}
use Rattle.tree_laws.proofs.Ends.{Behind, behind, closed, weighs, weight, nested_lighter}

module _ (P : Type 0) (There : P → Type 0) (land : Land P) (plane : IsPlane P There land) where
  abbrev W : P → ℕ
  W = weight P There land plane

  -- an opening side of at least this weight
  pub record Heavy (n : ℕ) : Type 0 where
    pub side : P
    pub there : There side
    pub opens : land.mark side ≡ Opens
    pub weighs_much : n ≤ W side

  -- the first tile of the corner in which an opening side is nested
  outer_start : (p : P) → There p → Behind P There land plane p
  outer_start p h =
      behind P There land plane (land.corner p) (λ z. Unit {0}) (λ z z1 k l. tt) (λ z gz c l o. closed P There land plane z gz o)
      (land.place p) p p h refl refl tt (stay refl)

  pub outwards : (x : P) → There x → land.mark x ≡ Opens → Heavy (suc (W x))
  outwards x h o =
      let p = land.right x in
      let hp = plane.there_right x h in
      let e : land.left p ≡ x = plane.left_right x h in
      let b = outer_start p hp in
      let k = kept P There land plane b.there b.way in
      let z : land.offset (land.corner b.start) (land.place b.start) ≡ pos 0 = ap (land.offset (land.corner b.start)) (plane.opens_first b.start b.there b.opens) ∙ plane.first_offset b.start b.there in
      let c : land.offset (land.corner p) (land.place p) ≡ land.offset (land.corner b.start) (land.place p) = ap (λ q. land.offset q (land.place p)) k.ends in
      let level : pos (land.depth p) ≡ pos (land.depth b.start) +ℤ land.offset (land.corner p) (land.place p) = omega (arith, ints, k.level, z, c) in
      let f = nested_lighter P There land plane p (land.depth b.start) hp (ap land.mark e ∙ o) level in
      let inner : W (land.left p) ≡ W x = ap W e in
      let same : weighs P There land plane (land.depth b.start) p ≡ W b.start = ap (λ g. land.corner_count * land.depth b.start + land.rank g) k.ends in
      record { side = b.start; there = b.there; opens = b.opens; weighs_much = omega (arith, f, inner, same) }

  pub heavy : (x : P) → There x → land.mark x ≡ Opens → (n : ℕ) → Heavy n
  heavy x h o zero = record { side = x; there = h; opens = o; weighs_much = omega arith }
  heavy x h o (suc n) =
      let b = heavy x h o n in
      let r = outwards b.side b.there b.opens in
      record { side = r.side; there = r.there; opens = r.opens; weighs_much = omega (arith, b.weighs_much, r.weighs_much) }
