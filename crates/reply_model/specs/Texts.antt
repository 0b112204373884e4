-- The texts on tiles, by a reading: what was last written where a walk leads.
use Rattle.std.specs.Prelude.{◌≡◌, ℕ, ◌≤◌, List, ◌∷◌, ◌++◌, length}
use Rattle.tile_model.specs.declared.Letter.{Letter}
use Rattle.reply_model.specs.declared.TheConstants.{LONGEST_TEXT}
use Rattle.reply_model.specs.declared.Command.TheVariants.{Put}
use Rattle.reply_model.specs.declared.Reply.TheVariants.{Done}
use Rattle.reply_model.specs.Histories.{History, walk_of}
use Rattle.reply_model.specs.Readings.{Reading}

-- the most bytes of a text on a tile
abbrev pub longest_text : ℕ
longest_text = LONGEST_TEXT

module _ (reading : Reading) (history : History) (u : List Letter) where
  -- Next after `before` in the history, the text is written on the tile of the walk u: by an accepted
  -- `put` of a walker whose walk, at that moment, is at that tile.
  pub record IsWritten (before : History) (text : List ℕ) : Type 0 where
    pub walker : ℕ
    pub rest : History
    pub split : history ≡ before ++ (Put walker text, Done) ∷ rest
    pub there : reading.AreTogether (walk_of before walker) u

  -- The text is what was last written there: whatever is written there is not written later.
  pub record IsLastText (text : List ℕ) : Type 0 where
    pub before : History
    pub written : IsWritten before text
    pub last :
        (moment : History) (other : List ℕ) → IsWritten moment other → length moment ≤ length before

  -- nothing was ever written there
  abbrev pub IsBlank : Type 0
  IsBlank = (before : History) (text : List ℕ) → ¬ (IsWritten before text)
