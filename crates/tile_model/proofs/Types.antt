-- Types and the moves between them: their plain values, that they undo each other, and where walks and loops lead.
use Rattle.std.proofs.Common.{◌≡◌, ℕ, zero, suc, ◌+◌, ◌-◌, ◌%◌, ◌<◌, ◌≤◌, Bool, true, false, cond, List, [], ◌∷◌, ◌++◌, length, replicate, slice_index_or, nat_lt, ◌&&◌, refl, sym, ap, ap₂, ◌∙◌, subst, arith, add-zero, mod-lt, mod-eq_of_lt, lt-ltb, ltb-true}
use Rattle.std.proofs.Math.Nat.{mod-add-mod, add-mod_right, add-mod-mod}
use Rattle.std.proofs.lemmas.Bool.{and_parts}
use Rattle.tile_model.specs.declared.Letter.{Letter}
use Rattle.tile_model.specs.declared.Letter.TheVariants.{L, R, X}
use Rattle.tile_model.specs.Tessellations.{TileKind, kind_at, IsType, is_type, left, right, cross, sides, valence, around, around_times}
use Rattle.tile_model.specs.Validity.{HasSides, HasRepeat, IsValid}
use Rattle.tile_model.specs.Walks.{step, type_of, opposite, times}
use Rattle.tile_model.specs.Relation.{IsLoop, there_and_back, left_and_right, right_and_left, full_turn, round_corner}

-- one to the left and one to the right, over the numbers
left_then_right : (s p : ℕ) → s < p → ((s + 1) % p + (p - 1)) % p ≡ s
left_then_right s p h =
    let e : s + 1 + (p - 1) ≡ s + p = omega arith in
    mod-add-mod (s + 1) p (p - 1) ∙ ap (λ m. m % p) e ∙ add-mod_right s p ∙ mod-eq_of_lt h

right_then_left : (s p : ℕ) → s < p → ((s + (p - 1)) % p + 1) % p ≡ s
right_then_left s p h =
    let e : s + (p - 1) + 1 ≡ s + p = omega arith in
    mod-add-mod (s + (p - 1)) p 1 ∙ ap (λ m. m % p) e ∙ add-mod_right s p ∙ mod-eq_of_lt h

one_more : (s n p : ℕ) → ((s + 1) % p + n) % p ≡ (s + suc n) % p
one_more s n p = let e : s + 1 + n ≡ s + suc n = omega arith in mod-add-mod (s + 1) p n ∙ ap (λ m. m % p) e

divisor_small : (n p : ℕ) → 3 ≤ n → n % p ≡ 0 → p ≤ n
divisor_small n p three rest = grind (arith, mod-eq_of_lt)

-- a repeat is at most the number of sides
pub repeat_le_sides : (kind : TileKind) → HasSides kind → HasRepeat kind → kind.repeat ≤ kind.sides
repeat_le_sides kind has repeat = divisor_small kind.sides kind.repeat has.0 repeat.divides

-- Facts that need no validity.
module _ (kinds : List TileKind) where
  pub type_test : (d : ℕ × ℕ) → IsType kinds d → is_type kinds d ≡ true
  type_test d h = ap₂ (λ a b. a && b) (lt-ltb d.0 (length kinds) h.0) (lt-ltb d.1 (kind_at kinds d.0).repeat h.1)

  pub test_type : (d : ℕ × ℕ) → is_type kinds d ≡ true → IsType kinds d
  test_type d e =
      let h = and_parts (nat_lt d.0 (length kinds)) (nat_lt d.1 (kind_at kinds d.0).repeat) e in
      (ltb-true d.0 (length kinds) h.0, ltb-true d.1 (kind_at kinds d.0).repeat h.1)

  -- the values at a type
  pub left_is : (d : ℕ × ℕ) → IsType kinds d → left kinds d ≡ (d.0, (d.1 + 1) % (kind_at kinds d.0).repeat)
  left_is d h = ap (λ b. cond b (d.0, (d.1 + 1) % (kind_at kinds d.0).repeat) d) (type_test d h)

  pub right_is : (d : ℕ × ℕ) → IsType kinds d → right kinds d ≡ (d.0, (d.1 + ((kind_at kinds d.0).repeat - 1)) % (kind_at kinds d.0).repeat)
  right_is d h = ap (λ b. cond b (d.0, (d.1 + ((kind_at kinds d.0).repeat - 1)) % (kind_at kinds d.0).repeat) d) (type_test d h)

  pub cross_is : (d : ℕ × ℕ) → IsType kinds d → cross kinds d ≡ slice_index_or (kind_at kinds d.0).partner d.1 (0, 0)
  cross_is d h = ap (λ b. cond b (slice_index_or (kind_at kinds d.0).partner d.1 (0, 0)) d) (type_test d h)

  -- a pair that is no type is left alone
  pub left_alone : (d : ℕ × ℕ) → is_type kinds d ≡ false → left kinds d ≡ d
  left_alone d e = ap (λ b. cond b (d.0, (d.1 + 1) % (kind_at kinds d.0).repeat) d) e

  pub right_alone : (d : ℕ × ℕ) → is_type kinds d ≡ false → right kinds d ≡ d
  right_alone d e = ap (λ b. cond b (d.0, (d.1 + ((kind_at kinds d.0).repeat - 1)) % (kind_at kinds d.0).repeat) d) e

  pub cross_alone : (d : ℕ × ℕ) → is_type kinds d ≡ false → cross kinds d ≡ d
  cross_alone d e = ap (λ b. cond b (slice_index_or (kind_at kinds d.0).partner d.1 (0, 0)) d) e

  -- what holds of types and of pairs that are left alone holds of all pairs
  by_type : (P : ℕ × ℕ → Type 0) (d : ℕ × ℕ) → (IsType kinds d → P d) → (is_type kinds d ≡ false → P d) → P d
  by_type P d at_type alone = go (is_type kinds d) refl
    where
      go : (b : Bool) → is_type kinds d ≡ b → P d
      go true e = at_type (test_type d e)
      go false e = alone e

  -- a turn stays at the tile
  pub kind_left : (d : ℕ × ℕ) → (left kinds d).0 ≡ d.0
  kind_left d = by_type (λ e. (left kinds e).0 ≡ e.0) d (λ h. ap (λ e. e.0) (left_is d h)) (λ e. ap (λ e. e.0) (left_alone d e))

  pub kind_right : (d : ℕ × ℕ) → (right kinds d).0 ≡ d.0
  kind_right d = by_type (λ e. (right kinds e).0 ≡ e.0) d (λ h. ap (λ e. e.0) (right_is d h)) (λ e. ap (λ e. e.0) (right_alone d e))

  pub sides_left : (d : ℕ × ℕ) → sides kinds (left kinds d) ≡ sides kinds d
  sides_left d = ap (λ k. (kind_at kinds k).sides) (kind_left d)

  pub sides_right : (d : ℕ × ℕ) → sides kinds (right kinds d) ≡ sides kinds d
  sides_right d = ap (λ k. (kind_at kinds k).sides) (kind_right d)

  -- the type that two walks in turn lead to
  pub type_append : (d : ℕ × ℕ) (u w : List Letter) → type_of kinds d (u ++ w) ≡ type_of kinds (type_of kinds d u) w
  type_append d [] w = refl
  type_append d (x ∷ u) w = type_append (step kinds d x) u w

  pub kind_lefts : (d : ℕ × ℕ) (n : ℕ) → (type_of kinds d (replicate n L)).0 ≡ d.0
  kind_lefts d zero = refl
  kind_lefts d (suc n) = kind_lefts (left kinds d) n ∙ kind_left d

  pub sides_lefts : (d : ℕ × ℕ) (n : ℕ) → sides kinds (type_of kinds d (replicate n L)) ≡ sides kinds d
  sides_lefts d n = ap (λ k. (kind_at kinds k).sides) (kind_lefts d n)

  pub lefts_alone : (d : ℕ × ℕ) (n : ℕ) → is_type kinds d ≡ false → type_of kinds d (replicate n L) ≡ d
  lefts_alone d zero e = refl
  lefts_alone d (suc n) e = ap (λ f. type_of kinds f (replicate n L)) (left_alone d e) ∙ lefts_alone d n e

  -- the last step round a corner may be taken first
  pub around_first : (n : ℕ) (d : ℕ × ℕ) → around_times kinds n (around kinds d) ≡ around_times kinds (suc n) d
  around_first zero d = refl
  around_first (suc n) d = ap (around kinds) (around_first n d)

  pub type_around : (n : ℕ) (d : ℕ × ℕ) → type_of kinds d (times n (L ∷ X ∷ [])) ≡ around_times kinds n d
  type_around zero d = refl
  type_around (suc n) d = type_around n (around kinds d) ∙ around_first n d

  around_alone : (n : ℕ) (d : ℕ × ℕ) → is_type kinds d ≡ false → around_times kinds n d ≡ d
  around_alone zero d e = refl
  around_alone (suc n) d e = ap (around kinds) (around_alone n d e) ∙ ap (cross kinds) (left_alone d e) ∙ cross_alone d e

module _ (kinds : List TileKind) (valid : IsValid kinds) where
  repeat_positive : (d : ℕ × ℕ) → IsType kinds d → 0 < (kind_at kinds d.0).repeat
  repeat_positive d h = omega (arith, h.1)

  -- a residue is below 64
  pub residue_below : (d : ℕ × ℕ) → IsType kinds d → d.1 < 64
  residue_below d h =
      let has = valid.sides d.0 h.0 in
      let small = repeat_le_sides (kind_at kinds d.0) has (valid.repeat d.0 h.0) in
      omega (arith, small, has.1, h.1)

  -- the moves lead from types to types
  pub left_type : (d : ℕ × ℕ) → IsType kinds d → IsType kinds (left kinds d)
  left_type d h = subst (IsType kinds) (sym (left_is kinds d h)) (h.0, mod-lt (d.1 + 1) (repeat_positive d h))

  pub right_type : (d : ℕ × ℕ) → IsType kinds d → IsType kinds (right kinds d)
  right_type d h = subst (IsType kinds) (sym (right_is kinds d h)) (h.0, mod-lt (d.1 + ((kind_at kinds d.0).repeat - 1)) (repeat_positive d h))

  pub cross_type : (d : ℕ × ℕ) → IsType kinds d → IsType kinds (cross kinds d)
  cross_type d h = valid.partner d h

  pub step_type : (d : ℕ × ℕ) (x : Letter) → IsType kinds d → IsType kinds (step kinds d x)
  step_type d L h = left_type d h
  step_type d R h = right_type d h
  step_type d X h = cross_type d h

  pub walk_type : (d : ℕ × ℕ) (walk : List Letter) → IsType kinds d → IsType kinds (type_of kinds d walk)
  walk_type d [] h = h
  walk_type d (x ∷ walk) h = walk_type (step kinds d x) walk (step_type d x h)

  -- the moves undo each other
  pub right_left : (d : ℕ × ℕ) → right kinds (left kinds d) ≡ d
  right_left d =
      by_type kinds (λ e. right kinds (left kinds e) ≡ e) d
      (λ h. ap (right kinds) (left_is kinds d h) ∙ right_is kinds (d.0, (d.1 + 1) % (kind_at kinds d.0).repeat) (h.0, mod-lt (d.1 + 1) (repeat_positive d h)) ∙ ap (λ s. (d.0, s)) (left_then_right d.1 (kind_at kinds d.0).repeat h.1))
      (λ e. ap (right kinds) (left_alone kinds d e) ∙ right_alone kinds d e)

  pub left_right : (d : ℕ × ℕ) → left kinds (right kinds d) ≡ d
  left_right d =
      by_type kinds (λ e. left kinds (right kinds e) ≡ e) d
      (λ h. ap (left kinds) (right_is kinds d h) ∙ left_is kinds (d.0, (d.1 + ((kind_at kinds d.0).repeat - 1)) % (kind_at kinds d.0).repeat) (h.0, mod-lt (d.1 + ((kind_at kinds d.0).repeat - 1)) (repeat_positive d h)) ∙ ap (λ s. (d.0, s)) (right_then_left d.1 (kind_at kinds d.0).repeat h.1))
      (λ e. ap (left kinds) (right_alone kinds d e) ∙ left_alone kinds d e)

  pub cross_cross : (d : ℕ × ℕ) → cross kinds (cross kinds d) ≡ d
  cross_cross d = by_type kinds (λ e. cross kinds (cross kinds e) ≡ e) d (valid.involution d) (λ e. ap (cross kinds) (cross_alone kinds d e) ∙ cross_alone kinds d e)

  pub step_back : (d : ℕ × ℕ) (x : Letter) → step kinds (step kinds d x) (opposite x) ≡ d
  step_back d L = right_left d
  step_back d R = left_right d
  step_back d X = cross_cross d

  -- n turns to the left
  pub type_lefts : (n : ℕ) (d : ℕ × ℕ) → IsType kinds d → type_of kinds d (replicate n L) ≡ (d.0, (d.1 + n) % (kind_at kinds d.0).repeat)
  type_lefts zero d h = ap (λ s. (d.0, s)) (sym (ap (λ m. m % (kind_at kinds d.0).repeat) (add-zero d.1) ∙ mod-eq_of_lt h.1))
  type_lefts (suc n) d h =
      ap (λ e. type_of kinds e (replicate n L)) (left_is kinds d h) ∙ type_lefts n (d.0, (d.1 + 1) % (kind_at kinds d.0).repeat) (h.0, mod-lt (d.1 + 1) (repeat_positive d h)) ∙ ap (λ s. (d.0, s)) (one_more d.1 n (kind_at kinds d.0).repeat)

  full_turn_type : (d : ℕ × ℕ) → IsType kinds d → type_of kinds d (replicate (sides kinds d) L) ≡ d
  full_turn_type d h =
      let p = (kind_at kinds d.0).repeat in
      let n = sides kinds d in
      type_lefts n d h ∙ ap (λ s. (d.0, s)) (sym (add-mod-mod d.1 n p) ∙ ap (λ m. (d.1 + m) % p) (valid.repeat d.0 h.0).divides ∙ ap (λ m. m % p) (add-zero d.1) ∙ mod-eq_of_lt h.1)

  -- each loop leads back to its type
  pub loop_type : (d : ℕ × ℕ) {j : ℕ} {loop : List Letter} → IsLoop kinds d j loop → type_of kinds d loop ≡ d
  loop_type d there_and_back = cross_cross d
  loop_type d left_and_right = right_left d
  loop_type d right_and_left = left_right d
  loop_type d full_turn = by_type kinds (λ e. type_of kinds e (replicate (sides kinds e) L) ≡ e) d (full_turn_type d) (lefts_alone kinds d (sides kinds d))
  loop_type d round_corner = type_around kinds (valence kinds d) d ∙ by_type kinds (λ e. around_times kinds (valence kinds e) e ≡ e) d (λ h. (valid.corner d h).closes) (around_alone kinds (valence kinds d) d)
