-- The letters that are written for a loop are the loop.
use Rattle.std.proofs.Common.{◌≡◌, ℕ, zero, suc, ◌+◌, List, [], ◌∷◌, ◌++◌, replicate, sym, ap, ◌∙◌, subst, arith, append_assoc}
use Rattle.std.proofs.lemmas.List.{append-nil}
use Rattle.tile_model.specs.declared.Letter.{Letter}
use Rattle.tile_model.specs.declared.Letter.TheVariants.{L, R, X}
use Rattle.tile_model.specs.Tessellations.{TileKind, sides, valence}
use Rattle.tile_model.specs.Walks.{times}
use Rattle.tile_model.specs.Relation.{IsLoop, there_and_back, left_and_right, right_and_left, full_turn, round_corner}

times_suc : (n : ℕ) (w : List Letter) → times n w ++ w ≡ times (suc n) w
times_suc zero w = sym (append-nil w)
times_suc (suc n) w = append_assoc w (times n w) w ∙ ap (λ m. w ++ m) (times_suc n w)

-- a walk, once more at the end
pub times_more : (n : ℕ) (w : List Letter) → times n w ++ w ≡ times (n + 1) w
times_more n w = let s : suc n ≡ n + 1 = omega arith in times_suc n w ∙ ap (λ m. times m w) s

module _ (kinds : List TileKind) (d : ℕ × ℕ) where
  -- letters that are those of a loop of that number
  of_loop : {j : ℕ} {loop : List Letter} (n : ℕ) (letters : List Letter) → n ≡ j → letters ≡ loop → IsLoop kinds d j loop → IsLoop kinds d n letters
  of_loop {j} n letters e f is = subst (λ k. IsLoop kinds d k letters) (sym e) (subst (IsLoop kinds d j) (sym f) is)

  pub first_loop : (n : ℕ) (letters : List Letter) → n ≡ 1 → letters ≡ X ∷ X ∷ [] → IsLoop kinds d n letters
  first_loop n letters e f = of_loop n letters e f there_and_back

  pub second_loop : (n : ℕ) (letters : List Letter) → n ≡ 2 → letters ≡ L ∷ R ∷ [] → IsLoop kinds d n letters
  second_loop n letters e f = of_loop n letters e f left_and_right

  pub third_loop : (n : ℕ) (letters : List Letter) → n ≡ 3 → letters ≡ R ∷ L ∷ [] → IsLoop kinds d n letters
  third_loop n letters e f = of_loop n letters e f right_and_left

  pub fourth_loop : (n count : ℕ) (letters : List Letter) → n ≡ 4 → count ≡ sides kinds d → letters ≡ replicate count L → IsLoop kinds d n letters
  fourth_loop n count letters e size f = of_loop n letters e (f ∙ ap (λ m. replicate m L) size) full_turn

  pub fifth_loop : (n count : ℕ) (letters : List Letter) → n ≡ 5 → count ≡ valence kinds d → letters ≡ times count (L ∷ X ∷ []) → IsLoop kinds d n letters
  fifth_loop n count letters e size f = of_loop n letters e (f ∙ ap (λ m. times m (L ∷ X ∷ [])) size) round_corner
