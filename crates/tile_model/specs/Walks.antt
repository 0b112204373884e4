-- Walks: lists of letters, the types that they lead to, how often they cross, and the way back.
use Rattle.std.specs.Prelude.{ℕ, zero, suc, ◌+◌, List, [], ◌∷◌, ◌++◌, reverse, map}
use Rattle.tile_model.specs.declared.Letter.{Letter}
use Rattle.tile_model.specs.declared.Letter.TheVariants.{L, R, X}
use Rattle.tile_model.specs.Tessellations.{TileKind, left, right, cross}

-- the type after one letter
abbrev pub step : List TileKind → ℕ × ℕ → Letter → ℕ × ℕ
step kinds d L = left kinds d
step kinds d R = right kinds d
step kinds d X = cross kinds d

-- the type that a walk leads to
abbrev pub type_of : List TileKind → ℕ × ℕ → List Letter → ℕ × ℕ
type_of kinds d [] = d
type_of kinds d (x ∷ walk) = type_of kinds (step kinds d x) walk

-- the number of letters X
abbrev pub crossings : List Letter → ℕ
crossings [] = 0
crossings (X ∷ walk) = 1 + crossings walk
crossings (_ ∷ walk) = crossings walk

-- the letter that undoes a letter
abbrev pub opposite : Letter → Letter
opposite L = R
opposite R = L
opposite X = X

-- the way back: the list reversed, L and R exchanged
abbrev pub inverse : List Letter → List Letter
inverse walk = map opposite (reverse walk)

-- a walk repeated n times
abbrev pub times : ℕ → List Letter → List Letter
times zero walk = []
times (suc n) walk = walk ++ times n walk
