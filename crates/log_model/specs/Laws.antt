-- What the definitions come to: where a log leads, and what its text tells.
use Rattle.std.specs.Prelude.{◌≡◌, ◌≢◌, ℕ, List, All}
use Rattle.tile_model.specs.declared.Letter.{Letter}
use Rattle.tile_model.specs.Tessellations.{TileKind}
use Rattle.tile_model.specs.Relation.{Change, Changes, Lead, AreRelated}
use Rattle.log_model.specs.Logs.{IsFirstRefused}
use Rattle.log_model.specs.LogTexts.{HasText, log_text, IsFirstBadLine}

-- a change leads from a walk to one walk
abbrev pub ChangesAreFunctions : Type 0
ChangesAreFunctions =
    (kinds : List TileKind) (d : ℕ × ℕ) (c : Change) (u v w : List Letter)
    → Changes kinds d c u v → Changes kinds d c u w → v ≡ w

-- and so does a log
abbrev pub LogsAreFunctions : Type 0
LogsAreFunctions =
    (kinds : List TileKind) (d : ℕ × ℕ) (log : List Change) (u v w : List Letter)
    → Lead kinds d log u v → Lead kinds d log u w → v ≡ w

-- a log leads to related walks only
abbrev pub LogsRelate : Type 0
LogsRelate =
    (kinds : List TileKind) (d : ℕ × ℕ) (log : List Change) (u w : List Letter)
    → Lead kinds d log u w → AreRelated kinds d u w

-- a log of which a change is refused leads nowhere
abbrev pub RefusedLeadNowhere : Type 0
RefusedLeadNowhere =
    (kinds : List TileKind) (d : ℕ × ℕ) (log : List Change) (u w : List Letter) (n : ℕ)
    → IsFirstRefused kinds d u log n → ¬ (Lead kinds d log u w)

-- one change is the first that is refused
abbrev pub OneIsRefused : Type 0
OneIsRefused =
    (kinds : List TileKind) (d : ℕ × ℕ) (log : List Change) (u : List Letter) (m n : ℕ)
    → IsFirstRefused kinds d u log m → IsFirstRefused kinds d u log n → m ≡ n

-- a text is that of one log
abbrev pub TextsAreOfOneLog : Type 0
TextsAreOfOneLog =
    (log other : List Change) → All HasText log → All HasText other
    → log_text log ≡ log_text other → log ≡ other

-- a text with a bad line is that of no log
abbrev pub BadTextsAreOfNoLog : Type 0
BadTextsAreOfNoLog =
    (bytes : List ℕ) (n : ℕ) → IsFirstBadLine bytes n → (log : List Change) → All HasText log
    → log_text log ≢ bytes

-- one line is the first that is bad
abbrev pub OneLineIsBad : Type 0
OneLineIsBad =
    (bytes : List ℕ) (m n : ℕ) → IsFirstBadLine bytes m → IsFirstBadLine bytes n → m ≡ n
