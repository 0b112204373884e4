-- The text of a name, and when bytes spell one.
use Rattle.std.specs.Prelude.{◌≡◌, ◌≢◌, ℕ, ◌+◌, ◌<◌, List, [], ◌∷◌, map, codes, decimal}
use Rattle.std.specs.List.{join_with_byte}
use Rattle.cell_names.specs.Name.{IsName}

-- the byte of `.`
abbrev pub dot : ℕ
dot = 46

-- `-` for the empty name, else its sides in decimal digits, joined by `.`
abbrev pub name_text : List ℕ → List ℕ
name_text [] = codes "-"
name_text (side ∷ sides) = join_with_byte dot (map decimal (side ∷ sides))

-- the bytes are the text of this name
pub record IsSpelling (bytes name : List ℕ) : Type 0 where
  pub is_name : IsName name
  pub text : name_text name ≡ bytes

-- the bytes spell no other name
abbrev pub SpellsNoOther : List ℕ → List ℕ → Type 0
SpellsNoOther bytes name = (other : List ℕ) → IsSpelling bytes other → other ≡ name

-- the bytes do not begin with a digit
abbrev pub NoDigit : List ℕ → Type 0
NoDigit bytes = (digit : ℕ) (rest : List ℕ) → digit < 10 → bytes ≢ (48 + digit) ∷ rest
