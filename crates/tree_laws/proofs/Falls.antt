-- The weight of a corner stays round it, falls at each nested side, and is bounded below.
use Rattle.std.proofs.Common.{◌≡◌, ℕ, suc, ◌*◌, refl, sym, ap, ◌∙◌, subst, arith, ℤ, pos, ◌+ℤ◌, ◌-ℤ◌, ◌*ℤ◌, ◌<ℤ◌, ◌≤ℤ◌}
use Rattle.std.proofs.lemmas.Int.{ints}
use Rattle.tree_model.specs.Contours.{Tree, Opens, Closes}
use Rattle.tree_laws.specs.Plane.{Land, IsPlane}
use Rattle.tree_laws.proofs.Ends.{ranked_at}
use Rattle.tree_laws.proofs.Weights.{spread, above_first}

-- over the numbers: the inner corner's first tile lies by the entered offset above that of the outer corner
falls : (s inner_rank outer_rank : ℕ) (inner outer h : ℤ) → inner ≡ outer +ℤ h → (pos inner_rank +ℤ (pos s *ℤ h)) <ℤ pos outer_rank → ((pos s *ℤ inner) +ℤ pos inner_rank) <ℤ ((pos s *ℤ outer) +ℤ pos outer_rank)
falls s inner_rank outer_rank inner outer h e l =
    let p = spread s inner outer h e in
    omega (arith, ints, p, l)

at_least_zero : (s r d : ℕ) (x : ℤ) → x ≡ pos d → pos 0 ≤ℤ ((pos s *ℤ x) +ℤ pos r)
at_least_zero s r d x e =
    let p : pos s *ℤ x ≡ pos (s * d) = ap (λ y. pos s *ℤ y) e in
    omega (arith, ints, p)

-- at least minus N, for a depth of at least -1
at_least_minus : (s r d : ℕ) (x : ℤ) → x ≡ pos d -ℤ pos 1 → (pos 0 -ℤ pos s) ≤ℤ ((pos s *ℤ x) +ℤ pos r)
at_least_minus s r d x e =
    let q : pos d ≡ x +ℤ pos 1 = omega (arith, ints, e) in
    let p = spread s (pos d) x (pos 1) q in
    let u : pos s *ℤ pos d ≡ pos (s * d) = refl in
    let v : pos s *ℤ pos 1 ≡ pos (s * 1) = refl in
    omega (arith, ints, p, u, v)

module _ (P : Type 0) (There : P → Type 0) (land : Land P) (plane : IsPlane P There land) where
  abbrev pub first_depth : P → ℤ
  first_depth p = pos (land.depth p) -ℤ land.offset (land.corner p) (land.place p)

  abbrev pub weight : P → ℤ
  weight p = (pos land.corner_count *ℤ first_depth p) +ℤ pos (land.rank (land.corner p))

  pub stays : (p : P) → There p → land.mark (land.left p) ≡ Tree → weight (land.hop (land.left p)) ≡ weight p
  stays p h t =
      let q = land.hop (land.left p) in
      let c = plane.tree_corner p h t in
      let o : land.offset (land.corner q) (land.place q) ≡ land.offset (land.corner p) (suc (land.place p)) = ap (λ g. land.offset g (land.place q)) c ∙ ap (land.offset (land.corner p)) (plane.tree_place p h t) in
      let d : first_depth q ≡ first_depth p = omega (arith, ints, o, plane.tree_depth p h t) in
      ap (λ x. (pos land.corner_count *ℤ x) +ℤ pos (land.rank (land.corner q))) d ∙ ap (λ g. (pos land.corner_count *ℤ first_depth p) +ℤ pos (land.rank g)) c

  first_at : (p : P) → There p → land.mark p ≡ Opens → land.offset (land.corner p) (land.place p) ≡ pos 0
  first_at p h o = ap (land.offset (land.corner p)) (plane.opens_first p h o) ∙ plane.first_offset p h

  pub falls_left : (p : P) → There p → land.mark (land.left p) ≡ Opens → weight (land.left p) <ℤ weight p
  falls_left p h o =
      let x = land.left p in
      let hx = plane.there_left p h in
      let r = ranked_at P There land plane x (land.corner p) (land.place p) hx (sym (plane.nested_corner p h o)) (sym (plane.nested_place p h o)) in
      let e : first_depth x ≡ first_depth p +ℤ land.offset (land.corner p) (land.place p) = omega (arith, ints, first_at x hx o, plane.left_depth p h) in
      falls land.corner_count (land.rank (land.corner x)) (land.rank (land.corner p)) (first_depth x) (first_depth p) (land.offset (land.corner p) (land.place p)) e r

  pub falls_right : (p : P) → There p → land.mark (land.left p) ≡ Closes → weight p <ℤ weight (land.left p)
  falls_right p h c =
      let y = land.left p in
      let n = land.corner p in
      let t = land.entry n in
      let u1 : land.outer n ≡ land.corner y = sym (plane.behind_corner p h c) in
      let u2 : suc t ≡ land.place y = sym (plane.behind_place p h c) in
      let r = ranked_at P There land plane p (land.corner y) t h u1 refl in
      let c1 = subst (λ q. land.offset q (suc t) -ℤ land.offset q t ≡ land.offset n (land.last n)) u1 (plane.one_change p h) in
      let c2 = subst (λ q. land.offset (land.corner y) q -ℤ land.offset (land.corner y) t ≡ land.offset n (land.last n)) u2 c1 in
      let l = ap (land.offset n) (plane.closes_last p h c) in
      let e : first_depth p ≡ first_depth y +ℤ land.offset (land.corner y) t = omega (arith, ints, c2, l, plane.left_depth p h) in
      falls land.corner_count (land.rank n) (land.rank (land.corner y)) (first_depth p) (first_depth y) (land.offset (land.corner y) t) e r

  pub bounded_left : (p : P) → There p → land.mark p ≡ Opens → pos 0 ≤ℤ weight p
  bounded_left p h o =
      let e : first_depth p ≡ pos (land.depth p) = omega (arith, ints, first_at p h o) in
      at_least_zero land.corner_count (land.rank (land.corner p)) (land.depth p) (first_depth p) e

  pub bounded_right : (p : P) → There p → land.mark (land.left p) ≡ Closes → (pos 0 -ℤ pos land.corner_count) ≤ℤ weight p
  bounded_right p h c =
      let l = ap (land.offset (land.corner p)) (plane.closes_last p h c) in
      let (d, e) = above_first (land.offset (land.corner p) (land.last (land.corner p))) (land.depth p) (plane.rises_little p h) in
      let f : first_depth p ≡ pos d -ℤ pos 1 = omega (arith, ints, e, l) in
      at_least_minus land.corner_count (land.rank (land.corner p)) d (first_depth p) f
