-- The text of a walk: its letters, or one dash for the empty walk.
use Rattle.std.specs.Prelude.{ℕ, List, [], ◌∷◌, map}
use Rattle.tile_model.specs.declared.Letter.{Letter}
use Rattle.tile_model.specs.declared.Letter.TheVariants.{L, R, X}

-- the bytes of the capital letters L, R and X
abbrev pub letter_code : Letter → ℕ
letter_code L = 76
letter_code R = 82
letter_code X = 88

-- the empty walk is the byte of a dash
abbrev pub walk_text : List Letter → List ℕ
walk_text [] = 45 ∷ []
walk_text (x ∷ walk) = map letter_code (x ∷ walk)
