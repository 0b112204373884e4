-- A file comes to one outcome: a first bad line, a fault of its kinds, or a tessellation.
use Rattle.std.specs.Prelude.{◌≡◌, ℕ, List}
use Rattle.tile_model.specs.Tessellations.{TileKind}
use Rattle.tile_model.specs.Validity.{IsValid}
use Rattle.tile_model.specs.declared.fault.KindFault.{KindFault}
use Rattle.tess_text.specs.Grammar.{IsInGrammar, IsFirstBadLine}
use Rattle.tess_text.specs.Spelling.{IsSpelling, IsRefused}

-- A file has one first bad line at most.
abbrev pub OneBadLine : Type 0
OneBadLine =
    (bytes : List ℕ) (m n : ℕ) → IsFirstBadLine bytes m → IsFirstBadLine bytes n → m ≡ n

-- A file in the grammar has none.
abbrev pub GrammarHasNoBadLine : Type 0
GrammarHasNoBadLine = (bytes : List ℕ) (n : ℕ) → IsInGrammar bytes → ¬ IsFirstBadLine bytes n

-- A file spells one list of kinds at most.
abbrev pub OneSpelling : Type 0
OneSpelling =
    (bytes : List ℕ) (a b : List TileKind) → IsSpelling bytes a → IsSpelling bytes b → a ≡ b

-- A file that spells a tessellation is not refused for a fault of its kinds.
abbrev pub SpeltIsNotRefused : Type 0
SpeltIsNotRefused =
    (bytes : List ℕ) (kinds : List TileKind) (fault : KindFault)
    → IsSpelling bytes kinds → IsValid kinds → ¬ IsRefused bytes fault

-- A file is refused for one fault of its kinds at most.
abbrev pub OneRefusal : Type 0
OneRefusal =
    (bytes : List ℕ) (f g : KindFault) → IsRefused bytes f → IsRefused bytes g → f ≡ g
