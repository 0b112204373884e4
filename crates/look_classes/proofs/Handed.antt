-- Keys handed in for one side or cell after the other.
use Rattle.std.proofs.Common.{◌≡◌, ℕ, suc, ◌+◌, List, [], ◌∷◌, ◌++◌, map, Option, sym, ap, ◌∙◌, subst, arith, append_assoc}
use Rattle.std.proofs.lemmas.List.{append-nil, map-append}
use Rattle.region_grower.specs.Regions.{RegionState}
use Rattle.look_classes.specs.declared.numbering.Numbering.{Numbering}
use Rattle.look_classes.specs.Classes.{below, sides_below}
use Rattle.look_classes.specs.Codes.{HasNumbered, HasNumberedMore, sides_at}
use Rattle.look_classes.proofs.Listed.{below_none, below_next, sides_none, sides_next}

pub more_none : (n : Numbering) → HasNumberedMore n n []
more_none n met h = subst (λ xs. HasNumbered xs n) (sym (append-nil met)) h

pub more_next : (n n' n'' : Numbering) (xs : List (Option (List ℕ))) (x : Option (List ℕ)) → HasNumberedMore n n' xs → ((met : List (Option (List ℕ))) → HasNumbered met n' → HasNumbered (met ++ x ∷ []) n'') → HasNumberedMore n n'' (xs ++ x ∷ [])
more_next n n' n'' xs x more step met h = subst (λ ys. HasNumbered ys n'') (append_assoc met xs (x ∷ [])) (step (met ++ xs) (more met h))

pub cells_next : {B : Type 0} (g : ℕ → B) (n : ℕ) → map g (below (n + 1)) ≡ map g (below n) ++ g n ∷ []
cells_next g n =
    let one : n + 1 ≡ suc n = omega arith in
    ap (λ k. map g (below k)) one ∙ (ap (map g) (below_next n) ∙ map-append g (below n) (n ∷ []))

pub sides_more : (g : ℕ × ℕ → Option (List ℕ)) (c n : ℕ) → map g (map (λ (i : ℕ). (c, i)) (below (n + 1))) ≡ map g (map (λ (i : ℕ). (c, i)) (below n)) ++ g (c, n) ∷ []
sides_more g c n = ap (map g) (cells_next (λ (i : ℕ). (c, i)) n) ∙ map-append g (map (λ (i : ℕ). (c, i)) (below n)) ((c, n) ∷ [])

module _ (r : RegionState) (g : ℕ × ℕ → Option (List ℕ)) where
  -- one side more of a cell
  pub side_none : (c : ℕ) (n : Numbering) → HasNumberedMore n n (map g (map (λ (i : ℕ). (c, i)) (below 0)))
  side_none c n = subst (λ xs. HasNumberedMore n n (map g (map (λ (i : ℕ). (c, i)) xs))) (sym below_none) (more_none n)

  pub side_more : (c i : ℕ) (n n' n'' : Numbering) → HasNumberedMore n n' (map g (map (λ (i : ℕ). (c, i)) (below i))) → ((met : List (Option (List ℕ))) → HasNumbered met n' → HasNumbered (met ++ g (c, i) ∷ []) n'') → HasNumberedMore n n'' (map g (map (λ (i : ℕ). (c, i)) (below (i + 1))))
  side_more c i n n' n'' more step = subst (HasNumberedMore n n'') (sym (sides_more g c i)) (more_next n n' n'' (map g (map (λ (i : ℕ). (c, i)) (below i))) (g (c, i)) more step)

  pub cell_none : (n : Numbering) → HasNumbered [] n → HasNumbered (map g (sides_below 0 r)) n
  cell_none n h = subst (λ xs. HasNumbered (map g xs) n) (sym (sides_none r)) h

  pub cell_more : (c : ℕ) (n n' : Numbering) → HasNumbered (map g (sides_below c r)) n → HasNumberedMore n n' (map g (sides_at r c)) → HasNumbered (map g (sides_below (c + 1) r)) n'
  cell_more c n n' h more =
      let one : c + 1 ≡ suc c = omega arith in
      let e : map g (sides_below (c + 1) r) ≡ map g (sides_below c r) ++ map g (sides_at r c) = ap (λ k. map g (sides_below k r)) one ∙ (ap (map g) (sides_next c r) ∙ map-append g (sides_below c r) (sides_at r c)) in
      subst (λ xs. HasNumbered xs n') (sym e) (more (map g (sides_below c r)) h)

module _ (g : ℕ → Option (List ℕ)) where
  pub face_none : (n : Numbering) → HasNumbered [] n → HasNumbered (map g (below 0)) n
  face_none n h = subst (λ xs. HasNumbered (map g xs) n) (sym below_none) h

  pub face_more : (c : ℕ) (n n' : Numbering) → HasNumbered (map g (below c)) n → ((met : List (Option (List ℕ))) → HasNumbered met n → HasNumbered (met ++ g c ∷ []) n') → HasNumbered (map g (below (c + 1))) n'
  face_more c n n' h step = subst (λ xs. HasNumbered xs n') (sym (cells_next g c)) (step (map g (below c)) h)
