-- Walks over handed types: where they lead, and the five loops.
use Rattle.std.specs.Prelude.{ℕ, Bool, List, [], ◌∷◌, replicate}
use Rattle.tile_model.specs.declared.Letter.{Letter}
use Rattle.tile_model.specs.declared.Letter.TheVariants.{L, R, X}
use Rattle.tile_model.specs.Walks.{times}
use Rattle.handed_kinds.specs.Handed.{HandedKind, left, right, cross, sides, valence}

-- the handed type after one letter
abbrev pub step : List HandedKind → ℕ × ℕ × Bool → Letter → ℕ × ℕ × Bool
step hs t L = left hs t
step hs t R = right hs t
step hs t X = cross hs t

-- the handed type that a walk leads to
abbrev pub handed_type : List HandedKind → ℕ × ℕ × Bool → List Letter → ℕ × ℕ × Bool
handed_type hs t [] = t
handed_type hs t (x ∷ walk) = handed_type hs (step hs t x) walk

-- The five loops at a handed type, by number: there and back, left and right, right and left, a
-- full turn in the tile, once round the corner.
pub data IsHandedLoop (hs : List HandedKind) (t : ℕ × ℕ × Bool) : ℕ → List Letter → Type 0 where
  there_and_back : IsHandedLoop hs t 1 (X ∷ X ∷ [])
  left_and_right : IsHandedLoop hs t 2 (L ∷ R ∷ [])
  right_and_left : IsHandedLoop hs t 3 (R ∷ L ∷ [])
  full_turn : IsHandedLoop hs t 4 (replicate (sides hs t) L)
  round_corner : IsHandedLoop hs t 5 (times (valence hs t) (L ∷ X ∷ []))
