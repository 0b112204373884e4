-- The output of a stream: the answers to its lines, in turn.
use Rattle.std.specs.Prelude.{◌≡◌, ◌≢◌, ℕ, ◌<◌, ◌≤◌, List, [], ◌∷◌, ◌++◌, length, codes}
use Rattle.reply_model.specs.declared.Command.{Command}
use Rattle.reply_model.specs.declared.Reply.{Reply}
use Rattle.command_text.specs.CommandLines.{IsSpelling, SpellsNothing, most_of_line}
use Rattle.command_text.specs.Replies.{line_feed}
use Rattle.line_server.specs.Lines.{AreCut, text_of, most_of_stream}
use Rattle.reply_model.specs.Histories.{History}
use Rattle.line_server.specs.Answering.{Answering}

-- the lines that answer a line that is too long, and one that spells no command
abbrev pub too_long_text : List ℕ
too_long_text = codes "too long" ++ line_feed

abbrev pub bad_text : List ℕ
bad_text = codes "bad" ++ line_feed

module _ (answering : Answering) where
  -- What a line with this text is answered with after a history, and the history behind it.
  -- The line is measured before its text is read.
  pub data IsAnswered (history : History) (line text : List ℕ)
      : (answer : List ℕ) (after : History) → Type 0 where
    too_long :
        most_of_line < length line
        → IsAnswered history line text too_long_text history
    empty :
        length line ≤ most_of_line
        → text ≡ []
        → IsAnswered history line text [] history
    bad :
        length line ≤ most_of_line
        → text ≢ []
        → SpellsNothing text
        → IsAnswered history line text bad_text history
    replied :
        length line ≤ most_of_line
        → (c : Command) (x : Reply) (answer : List ℕ)
        → IsSpelling text c
        → answering.IsDue history c x
        → answering.HasText x answer
        → IsAnswered history line text answer (history ++ (c, x) ∷ [])

  -- What lines that line feeds end are answered with, one after the other.
  pub data AreAnswered
      : (before : History) (lines : List (List ℕ)) (answers : List ℕ) (after : History)
      → Type 0 where
    none : (history : History) → AreAnswered history [] [] history
    next :
        (before between after : History) (line answer : List ℕ)
        (lines : List (List ℕ)) (answers : List ℕ)
        → IsAnswered before line (text_of line) answer between
        → AreAnswered between lines answers after
        → AreAnswered before (line ∷ lines) (answer ++ answers) after

  -- the output of the lines of the bytes that line feeds end
  pub record IsLinesOutput (before : History) (bytes out : List ℕ) (after : History) : Type 0 where
    pub lines : List (List ℕ)
    pub rest : List ℕ
    pub cut : AreCut bytes lines rest
    pub answers : AreAnswered before lines out after

  -- The output of a whole stream: what stands behind its last line feed is a line too.
  -- Nothing is answered where nothing stands there.
  pub record IsOutput (before : History) (bytes out : List ℕ) (after : History) : Type 0 where
    pub lines : List (List ℕ)
    pub last : List ℕ
    pub cut : AreCut bytes lines last
    pub between : History
    pub whole : List ℕ
    pub ending : List ℕ
    pub answers : AreAnswered before lines whole between
    pub answer : IsAnswered between last last ending after
    pub joined : out ≡ whole ++ ending

  -- The output of some first lines of a stream, or of all of it, within the limit.
  -- What stands written at some moment begins one of these.
  pub data IsFrontOutput (before : History) (bytes : List ℕ) : (out : List ℕ) → Type 0 where
    of_lines :
        (front rest out : List ℕ) (after : History)
        → bytes ≡ front ++ rest
        → length front ≤ most_of_stream
        → IsLinesOutput before front out after
        → IsFrontOutput before bytes out
    of_all :
        (out : List ℕ) (after : History)
        → length bytes ≤ most_of_stream
        → IsOutput before bytes out after
        → IsFrontOutput before bytes out
