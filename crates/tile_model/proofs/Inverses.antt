-- The way back: it undoes a walk, common beginnings cancel, and how often walks cross.
use Rattle.std.proofs.Common.{◌≡◌, ℕ, zero, suc, ◌+◌, List, [], ◌∷◌, ◌++◌, map, reverse, replicate, refl, sym, ap, ap₂, ◌∙◌, subst, arith, zero-add, add_assoc, append_assoc}
use Rattle.std.proofs.lemmas.List.{map-append, reverse-append}
use Rattle.tile_model.specs.declared.Letter.{Letter}
use Rattle.tile_model.specs.declared.Letter.TheVariants.{L, R, X}
use Rattle.tile_model.specs.Tessellations.{TileKind}
use Rattle.tile_model.specs.Validity.{IsValid}
use Rattle.tile_model.specs.Walks.{step, type_of, crossings, opposite, inverse}
use Rattle.tile_model.specs.Relation.{there_and_back, left_and_right, right_and_left, AreRelated}
use Rattle.tile_model.proofs.Types.{type_append}
use Rattle.tile_model.proofs.Relations.{related_equal, related_same, related_back, related_on, related_behind, related_before, loop_empty, related_type}

pub opposite_opposite : (x : Letter) → opposite (opposite x) ≡ x
opposite_opposite L = refl
opposite_opposite R = refl
opposite_opposite X = refl

-- the way back along two walks in turn: first the way back along the second
pub inverse_append : (u w : List Letter) → inverse (u ++ w) ≡ inverse w ++ inverse u
inverse_append u w = ap (map opposite) (reverse-append u w) ∙ map-append opposite (reverse w) (reverse u)

pub inverse_cons : (x : Letter) (w : List Letter) → inverse (x ∷ w) ≡ inverse w ++ opposite x ∷ []
inverse_cons x w = inverse_append (x ∷ []) w

pub inverse_inverse : (w : List Letter) → inverse (inverse w) ≡ w
inverse_inverse [] = refl
inverse_inverse (x ∷ w) = ap inverse (inverse_cons x w) ∙ inverse_append (inverse w) (opposite x ∷ []) ∙ ap₂ (λ y v. y ∷ v) (opposite_opposite x) (inverse_inverse w)

pub crossings_append : (u w : List Letter) → crossings (u ++ w) ≡ crossings u + crossings w
crossings_append [] w = sym (zero-add (crossings w))
crossings_append (L ∷ u) w = crossings_append u w
crossings_append (R ∷ u) w = crossings_append u w
crossings_append (X ∷ u) w = ap (λ n. 1 + n) (crossings_append u w) ∙ sym (add_assoc 1 (crossings u) (crossings w))

pub crossings_inverse : (w : List Letter) → crossings (inverse w) ≡ crossings w
crossings_inverse [] = refl
crossings_inverse (x ∷ w) = ap crossings (inverse_cons x w) ∙ crossings_append (inverse w) (opposite x ∷ []) ∙ ap (λ n. n + crossings (opposite x ∷ [])) (crossings_inverse w) ∙ last x
  where
    last : (y : Letter) → crossings w + crossings (opposite y ∷ []) ≡ crossings (y ∷ w)
    last L = omega arith
    last R = omega arith
    last X = omega arith

pub crossings_lefts : (n : ℕ) → crossings (replicate n L) ≡ 0
crossings_lefts zero = refl
crossings_lefts (suc n) = crossings_lefts n

module _ (kinds : List TileKind) where
  -- a letter and its opposite
  letter_cancels : (d : ℕ × ℕ) (x : Letter) → AreRelated kinds d (x ∷ opposite x ∷ []) []
  letter_cancels d L = loop_empty kinds left_and_right
  letter_cancels d R = loop_empty kinds right_and_left
  letter_cancels d X = loop_empty kinds there_and_back

  -- a walk and the way back lead nowhere
  pub inverse_cancels : (d : ℕ × ℕ) (w : List Letter) → AreRelated kinds d (w ++ inverse w) []
  inverse_cancels d [] = related_same kinds []
  inverse_cancels d (x ∷ w) =
      let inner : AreRelated kinds (step kinds d x) ((w ++ inverse w) ++ opposite x ∷ []) (opposite x ∷ []) = related_behind kinds (opposite x ∷ []) (inverse_cancels (step kinds d x) w) in
      let outer : AreRelated kinds d (x ∷ ((w ++ inverse w) ++ opposite x ∷ [])) (x ∷ opposite x ∷ []) = related_before kinds (x ∷ []) inner in
      let same : (x ∷ w) ++ inverse (x ∷ w) ≡ x ∷ ((w ++ inverse w) ++ opposite x ∷ []) = ap (λ v. x ∷ (w ++ v)) (inverse_cons x w) ∙ ap (λ v. x ∷ v) (sym (append_assoc w (inverse w) (opposite x ∷ []))) in
      related_on kinds (related_equal kinds same) (related_on kinds outer (letter_cancels d x))

  -- and so do the way back and the walk, at any type
  pub inverse_cancels_back : (d : ℕ × ℕ) (w : List Letter) → AreRelated kinds d (inverse w ++ w) []
  inverse_cancels_back d w = subst (λ v. AreRelated kinds d (inverse w ++ v) []) (inverse_inverse w) (inverse_cancels d (inverse w))

  -- there, back, and on
  pub there_back_on : (d : ℕ × ℕ) (u w : List Letter) → AreRelated kinds d (u ++ (inverse u ++ w)) w
  there_back_on d u w = related_on kinds (related_equal kinds (sym (append_assoc u (inverse u) w))) (related_behind kinds w (inverse_cancels d u))

  pub back_there_on : (d : ℕ × ℕ) (u w : List Letter) → AreRelated kinds d (inverse u ++ (u ++ w)) w
  back_there_on d u w = related_on kinds (related_equal kinds (sym (append_assoc (inverse u) u w))) (related_behind kinds w (inverse_cancels_back d u))

module _ (kinds : List TileKind) (valid : IsValid kinds) where
  -- the way back leads to the first type
  pub inverse_type : (d : ℕ × ℕ) (w : List Letter) → type_of kinds (type_of kinds d w) (inverse w) ≡ d
  inverse_type d w = sym (type_append kinds d w (inverse w)) ∙ related_type kinds valid d (inverse_cancels kinds d w)

  -- common beginnings cancel
  pub related_cancel : (d : ℕ × ℕ) (z : List Letter) {u w : List Letter} → AreRelated kinds d (z ++ u) (z ++ w) → AreRelated kinds (type_of kinds d z) u w
  related_cancel d z {u} {w} r =
      let t = type_of kinds d z in
      let home : AreRelated kinds (type_of kinds t (inverse z)) (z ++ u) (z ++ w) = subst (λ e. AreRelated kinds e (z ++ u) (z ++ w)) (sym (inverse_type d z)) r in
      related_on kinds (related_back kinds (back_there_on kinds t z u)) (related_on kinds (related_before kinds (inverse z) home) (back_there_on kinds t z w))

  -- u followed by z is related to w exactly where z is related to the way back along u followed by w
  pub related_move : (d : ℕ × ℕ) (u z w : List Letter) → AreRelated kinds d (u ++ z) w → AreRelated kinds (type_of kinds d u) z (inverse u ++ w)
  related_move d u z w r = related_cancel d u (related_on kinds r (related_back kinds (there_back_on kinds d u w)))

  pub related_move_back : (d : ℕ × ℕ) (u z w : List Letter) → AreRelated kinds (type_of kinds d u) z (inverse u ++ w) → AreRelated kinds d (u ++ z) w
  related_move_back d u z w r = related_on kinds (related_before kinds u r) (there_back_on kinds d u w)

  -- related walks have related ways back
  pub related_inverses : (d : ℕ × ℕ) {u w : List Letter} → AreRelated kinds d u w → AreRelated kinds (type_of kinds d u) (inverse u) (inverse w)
  related_inverses d {u} {w} r =
      let around : AreRelated kinds d (u ++ inverse w) [] = related_on kinds (related_behind kinds (inverse w) r) (inverse_cancels kinds d w) in
      let forth : AreRelated kinds d (u ++ inverse u) [] = inverse_cancels kinds d u in
      related_cancel d u (related_on kinds forth (related_back kinds around))
