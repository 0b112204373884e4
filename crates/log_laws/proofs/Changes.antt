-- Lists of changes: one that leads through two lists, and that a change leads to one walk.
use Rattle.std.proofs.Common.{◌≡◌, ℕ, nat_eq, List, [], ◌∷◌, ◌++◌, length, replicate, refl, sym, ap, ap₂, ◌∙◌, arith}
use Rattle.std.specs.Prelude.{if◌then◌else◌}
use Rattle.tile_model.specs.declared.Letter.{Letter}
use Rattle.tile_model.specs.declared.Letter.TheVariants.{L, R, X}
use Rattle.tile_model.specs.Tessellations.{TileKind, sides, valence}
use Rattle.tile_model.specs.Walks.{type_of, times}
use Rattle.tile_model.specs.Relation.{IsLoop, there_and_back, left_and_right, right_and_left, full_turn, round_corner, Change, Changes, inserts, deletes, Lead}

-- two lists that are one list, cut at one place
front_back : (u v s t : List Letter) → length u ≡ length v → u ++ s ≡ v ++ t → (u ≡ v) × (s ≡ t)
front_back [] [] s t n e = (refl, e)
front_back [] (y ∷ v) s t n e = absurd (omega (arith, n))
front_back (x ∷ u) [] s t n e = absurd (omega (arith, n))
front_back (x ∷ u) (y ∷ v) s t n e =
    let f = front_back u v s t (omega (arith, n)) (cc (e)) in
    (ap₂ (λ z m. z ∷ m) (cc (e)) f.0, f.1)

module _ (kinds : List TileKind) (d : ℕ × ℕ) where
  -- what leads through two lists leads through a walk between them
  pub lead_split : (first second : List Change) (u w : List Letter) → Lead kinds d (first ++ second) u w → (v : List Letter) × Lead kinds d first u v × Lead kinds d second v w
  lead_split [] second u w r = (u, refl, r)
  lead_split (c ∷ first) second u w r = let s = lead_split first second r.0 w r.2 in (s.0, (r.0, r.1, s.1), s.2)

  -- the loop of each number
  loop_at : ℕ → List Letter
  loop_at j =
      if nat_eq j 1 then X ∷ X ∷ [] else if nat_eq j 2 then L ∷ R ∷ [] else if nat_eq j 3 then R ∷ L ∷ []
      else if nat_eq j 4 then replicate (sides kinds d) L else times (valence kinds d) (L ∷ X ∷ [])

  loop_is : {j : ℕ} {loop : List Letter} → IsLoop kinds d j loop → loop ≡ loop_at j
  unfolding loop_at
  loop_is there_and_back = refl
  loop_is left_and_right = refl
  loop_is right_and_left = refl
  loop_is full_turn = refl
  loop_is round_corner = refl

module _ (kinds : List TileKind) (d : ℕ × ℕ) where
  -- at one type and of one number there is one loop
  one_loop : (before before' : List Letter) (j : ℕ) (loop loop' : List Letter) → before ≡ before' → IsLoop kinds (type_of kinds d before) j loop → IsLoop kinds (type_of kinds d before') j loop' → loop ≡ loop'
  one_loop before before' j loop loop' e is is' = loop_is kinds (type_of kinds d before) is ∙ ap (λ b. loop_at kinds (type_of kinds d b) j) e ∙ sym (loop_is kinds (type_of kinds d before') is')

  pub one_change : {c : Change} {u v w : List Letter} → Changes kinds d c u v → Changes kinds d c u w → v ≡ w
  one_change {c} (inserts before loop behind i at is from to) (inserts before' loop' behind' i' at' is' from' to') =
      let f = front_back before before' behind behind' (sym at ∙ at') (sym from ∙ from') in
      let l = one_loop before before' c.loop loop loop' f.0 is is' in
      to ∙ ap₂ (λ b m. b ++ m) f.0 (ap₂ (λ m h. m ++ h) l f.1) ∙ sym to'
  one_change (inserts before loop behind i at is from to) (deletes before' loop' behind' i' at' is' from' to') = absurd (cc)
  one_change (deletes before loop behind i at is from to) (inserts before' loop' behind' i' at' is' from' to') = absurd (cc)
  one_change {c} (deletes before loop behind i at is from to) (deletes before' loop' behind' i' at' is' from' to') =
      let f = front_back before before' (loop ++ behind) (loop' ++ behind') (sym at ∙ at') (sym from ∙ from') in
      let l = one_loop before before' c.loop loop loop' f.0 is is' in
      let h = front_back loop loop' behind behind' (ap length l) f.1 in
      to ∙ ap₂ (λ b m. b ++ m) f.0 h.1 ∙ sym to'
