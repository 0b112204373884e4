-- Walks lead, and loops are, as in the expansion.
use Rattle.std.proofs.Common.{◌≡◌, ℕ, ◌≤◌, Bool, List, [], ◌∷◌, length, drop, replicate, refl, sym, ap, ◌∙◌, subst}
use Rattle.std.proofs.Math.ListN.{drop_of_length-le}
use Rattle.tile_model.specs.declared.Letter.{Letter}
use Rattle.tile_model.specs.declared.Letter.TheVariants.{L, R, X}
use Rattle.tile_model.specs.Tessellations.{sides as flat_sides, valence as flat_valence}
use Rattle.tile_model.specs.Walks.{step as flat_step, type_of, times}
use Rattle.tile_model.specs.Relation.{IsLoop}
use Rattle.handed_kinds.specs.Handed.{HandedKind, IsHandedType, sides, valence}
use Rattle.handed_kinds.specs.HandedValidity.{IsHandedValid}
use Rattle.handed_kinds.specs.HandedWalks.{step, handed_type, IsHandedLoop}
use Rattle.handed_kinds.specs.Expansion.{flat, expanded}
use Rattle.handed_kinds.proofs.Numbers.{sides_is}
use Rattle.handed_kinds.proofs.Flat.{left_flat, right_flat, cross_flat, valence_flat, left_type, right_type}
use Rattle.handed_kinds.proofs.Valid.{valid_lists, cross_type}

module _ (hs : List HandedKind) (valid : IsHandedValid hs) where
  pub step_flat : (t : ℕ × ℕ × Bool) (x : Letter) → flat hs (step hs t x) ≡ flat_step (expanded hs) (flat hs t) x
  step_flat t L = left_flat hs t
  step_flat t R = right_flat hs t
  step_flat t X = cross_flat hs (valid_lists hs valid.repeat) t

  pub walk_flat : (t : ℕ × ℕ × Bool) (walk : List Letter) → flat hs (handed_type hs t walk) ≡ type_of (expanded hs) (flat hs t) walk
  walk_flat t [] = refl
  walk_flat t (x ∷ walk) = walk_flat (step hs t x) walk ∙ ap (λ d. type_of (expanded hs) d walk) (step_flat t x)

  pub step_type : (t : ℕ × ℕ × Bool) (x : Letter) → IsHandedType hs t → IsHandedType hs (step hs t x)
  step_type t L h = left_type hs t h
  step_type t R h = right_type hs t h
  step_type t X h = cross_type hs valid.partner t h

  module _ (t : ℕ × ℕ × Bool) (h : IsHandedType hs t) where
    sides_same : sides hs t ≡ flat_sides (expanded hs) (flat hs t)
    sides_same = sym (sides_is hs t.0 t.2)

    valence_same : valence hs t ≡ flat_valence (expanded hs) (flat hs t)
    valence_same = valence_flat hs (valid_lists hs valid.repeat) t h

    pub loop_there : (j : ℕ) (loop : List Letter) → IsHandedLoop hs t j loop → IsLoop (expanded hs) (flat hs t) j loop
    loop_there j loop IsHandedLoop.there_and_back = IsLoop.there_and_back
    loop_there j loop IsHandedLoop.left_and_right = IsLoop.left_and_right
    loop_there j loop IsHandedLoop.right_and_left = IsLoop.right_and_left
    loop_there j loop IsHandedLoop.full_turn = subst (λ (n : ℕ). IsLoop (expanded hs) (flat hs t) 4 (replicate n L)) (sym sides_same) IsLoop.full_turn
    loop_there j loop IsHandedLoop.round_corner = subst (λ (n : ℕ). IsLoop (expanded hs) (flat hs t) 5 (times n (L ∷ X ∷ []))) (sym valence_same) IsLoop.round_corner

    pub loop_back : (j : ℕ) (loop : List Letter) → IsLoop (expanded hs) (flat hs t) j loop → IsHandedLoop hs t j loop
    loop_back j loop IsLoop.there_and_back = IsHandedLoop.there_and_back
    loop_back j loop IsLoop.left_and_right = IsHandedLoop.left_and_right
    loop_back j loop IsLoop.right_and_left = IsHandedLoop.right_and_left
    loop_back j loop IsLoop.full_turn = subst (λ (n : ℕ). IsHandedLoop hs t 4 (replicate n L)) sides_same IsHandedLoop.full_turn
    loop_back j loop IsLoop.round_corner = subst (λ (n : ℕ). IsHandedLoop hs t 5 (times n (L ∷ X ∷ []))) valence_same IsHandedLoop.round_corner

-- with no letters left, the type reached is where the walk leads
pub arrived : (hs : List HandedKind) (t from : ℕ × ℕ × Bool) (letters walk : List Letter) (i : ℕ) → length letters ≤ i → handed_type hs t (drop i letters) ≡ handed_type hs from walk → t ≡ handed_type hs from walk
arrived hs t from letters walk i ended reached = ap (λ l. handed_type hs t l) (sym (drop_of_length-le letters ended)) ∙ reached
