-- Options: words in pairs, a name and its value.
use Rattle.std.specs.Prelude.{◌≡◌, ◌⊎◌, ℕ, List, [], ◌∷◌, Option, Some, None, if◌then◌else◌}
use Rattle.std.specs.Str.{bytes_eq}

-- the value of the first option of this name
abbrev pub value_of : List ℕ → List (List ℕ) → Option (List ℕ)
value_of name [] = None
value_of name (option ∷ []) = None
value_of name (option ∷ value ∷ others) =
    if bytes_eq option name then Some value else value_of name others

-- the name is one of two, and no option among the words has it
pub record IsNew (one other name : List ℕ) (words : List (List ℕ)) : Type 0 where
  pub known : (name ≡ one) ⊎ (name ≡ other)
  pub alone : value_of name words ≡ None

-- the words are options of two names, each at most once
abbrev pub AreOptions : (one other : List ℕ) → List (List ℕ) → Type 0
AreOptions one other [] = Unit {0}
AreOptions one other (name ∷ []) = ⊥
AreOptions one other (name ∷ value ∷ others) =
    IsNew one other name others × AreOptions one other others
