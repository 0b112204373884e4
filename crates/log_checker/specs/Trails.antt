-- Lists that are kept in pieces, and what is put into them and taken out.
use Rattle.std.specs.Prelude.{◌≡◌, ℕ, ◌+◌, ◌<◌, ◌≤◌, List, [], ◌∷◌, ◌++◌, length, take, slice_index_or}
use Rattle.tile_model.specs.declared.Letter.{Letter}
use Rattle.log_checker.specs.Footprints.{TypedLetter, letters}

-- the pieces, one behind the other
abbrev pub joined : List (List TypedLetter) → List TypedLetter
joined [] = []
joined (p ∷ pieces) = p ++ joined pieces

-- the walk that the pieces hold
abbrev pub walk_of : List (List TypedLetter) → List Letter
walk_of pieces = letters (joined pieces)

-- the piece of a number, counted from 0
abbrev pub piece_at : List (List TypedLetter) → ℕ → List TypedLetter
piece_at pieces i = slice_index_or pieces i []

-- there is a piece of number i, and so many letters stand before it
pub record Begins (pieces : List (List TypedLetter)) (i before : ℕ) : Type 0 where
  pub inside : i < length pieces
  pub counted : before ≡ length (joined (take i pieces))

-- A place lies in or at the end of the piece of number i, before which so many letters stand. It
-- lies at the beginning only where no letter stands before it.
pub record Covers (pieces : List (List TypedLetter)) (i before place : ℕ) : Type 0 where
  pub begins : Begins pieces i before
  pub behind : before ≤ place
  pub within : place ≤ before + length (piece_at pieces i)
  pub not_first : 0 < place → before < place

-- w is u with a list put in at a place
pub record IsWith (place : ℕ) (middle u w : List TypedLetter) : Type 0 where
  pub before : List TypedLetter
  pub behind : List TypedLetter
  pub at : place ≡ length before
  pub without : u ≡ before ++ behind
  pub put : w ≡ before ++ (middle ++ behind)

-- The pieces before number i are the same, and there is a piece of that number.
pub record KeepsFront (pieces others : List (List TypedLetter)) (i : ℕ) : Type 0 where
  pub inside : i < length others
  pub front : take i others ≡ take i pieces
