-- The work on one piece of the stream.
use Rattle.std.specs.Prelude.{◌≡◌, ℕ, ◌<◌, ◌≤◌, ◌-◌, Bool, true, false, IsTrue, List, [], ◌++◌, length, take, drop}
use Rattle.std.specs.Prelude.{Option, None, Some}
use Rattle.std.specs.List.{All}
use Rattle.way_io.specs.Pieces.{AppendsPrefix}
use Rattle.command_text.specs.CommandLines.{most_of_line}
use Rattle.tree_model.specs.Names.{IsRing}
use Rattle.session_core.specs.Sessions.{SessionState, IsSession}
use Rattle.line_server.specs.declared.reader.Reader.{Reader}
use Rattle.line_server.specs.declared.reader.TheConstants.{BUFFER_SIZE}
use Rattle.line_server.specs.Answering.{name_lines}
use Rattle.line_server.specs.Lines.{LacksFeed, AreCut, ended}
use Rattle.line_server.specs.Outboxes.{HasSaid, HasBroken}
use Rattle.line_server.specs.Sessions.{AnswersLine, AnswersLines, DuesLine, DuesLines}

-- how many bytes are kept of the stream at a time
abbrev pub buffer_size : ℕ
buffer_size = BUFFER_SIZE

-- The bytes of the buffer that are kept leave room for more.
pub record IsReader (r : Reader) : Type 0 where
  pub size : length r.buffer.items ≡ buffer_size
  pub few : r.kept ≤ most_of_line

-- the bytes that were dropped of a line that is too long: none, unless the line is lost
pub record AreDropped (lost : Bool) (dropped : List ℕ) : Type 0 where
  pub some : lost ≡ true → most_of_line < length dropped
  pub none : lost ≡ false → dropped ≡ []
  pub within : LacksFeed dropped

-- the last bytes of some bytes
abbrev pub behind : ℕ → List ℕ → List ℕ
behind rest bytes = drop (length bytes - rest) bytes

-- the text of a line whose end has this text, unless its beginning was dropped, where it may be any
abbrev pub IsTextBehind : Bool → List ℕ → List ℕ → Type 0
IsTextBehind lost text whole = lost ≡ false → whole ≡ text

-- what was read of a line that has not ended: it is kept, or it is too long and was dropped
pub record Keeps (r : Reader) (line : List ℕ) : Type 0 where
  pub kept : r.lost ≡ false → line ≡ take r.kept r.buffer.items
  pub long : r.lost ≡ true → most_of_line < length line
  pub empty : r.lost ≡ true → r.kept ≡ 0
  pub within : LacksFeed line

-- What was measured of a line whose text is `whole`: it is too long, or its text is this one.
pub record IsMeasured (is_long : Bool) (text line whole : List ℕ) : Type 0 where
  pub long : is_long ≡ true → most_of_line < length line
  pub short : is_long ≡ false → length line ≤ most_of_line
  pub same : is_long ≡ false → whole ≡ text

-- the names of the ring of this number, if there is one
pub data AreNames (s : SessionState) : Option ℕ → List (List ℕ) → Type 0 where
  of_none : AreNames s None []
  of_ring :
      (d : ℕ) (names : List (List ℕ))
      → IsSession s
      → IsRing s.rules.kinds s.rules.automaton s.kind d names
      → AreNames s (Some d) names

-- The session answered a line with this text. The answer waits, but for the names of a ring that
-- follow it, if there is one.
pub record HasAnsweredLine (old : SessionState) (line text waiting : List ℕ)
    (new : SessionState) (waiting' : List ℕ) (ring : Option ℕ) : Type 0 where
  pub front : List ℕ
  pub waits : waiting' ≡ waiting ++ front
  pub session :
      (names : List (List ℕ)) → AreNames new ring names
      → AnswersLine old new line text (front ++ name_lines names)

-- the session answered a line with this text, and the answer was said
pub record HasReplied (tells : Bool) (old : SessionState) (line text taken waiting : List ℕ)
    (new : SessionState) (taken' waiting' : List ℕ) : Type 0 where
  pub answer : List ℕ
  pub said : HasSaid tells taken waiting answer taken' waiting'
  pub session : AnswersLine old new line text answer

-- it was not, and of the answer nothing or the beginning is written
pub data HasFailed (tells : Bool) (old : SessionState)
    (line text taken waiting taken' : List ℕ) : Type 0 where
  nothing :
      HasBroken tells taken waiting [] taken'
      → HasFailed tells old line text taken waiting taken'
  partly :
      (answer : List ℕ)
      → DuesLine old line text answer
      → HasBroken tells taken waiting answer taken'
      → HasFailed tells old line text taken waiting taken'

-- The lines among these bytes were answered, and all is written.
-- `rest` is what stands behind the last line feed.
pub record HasAnsweredLines (tells : Bool) (old : SessionState) (bytes taken : List ℕ)
    (new : SessionState) (rest taken' : List ℕ) : Type 0 where
  pub lines : List (List ℕ)
  pub cut : AreCut bytes lines rest
  pub answers : List ℕ
  pub session : AnswersLines old new lines answers
  pub written : IsTrue tells → taken' ≡ taken ++ answers

-- So it is, and the last `rest` of the bytes stand behind the last line feed.
-- Where they belong to a lost line, so does what was dropped.
pub record HasComeTo (tells : Bool) (old : SessionState) (dropped bytes taken : List ℕ)
    (new : SessionState) (rest : ℕ) (lost : Bool) (taken' : List ℕ) : Type 0 where
  pub hidden : List ℕ
  pub are_dropped : AreDropped lost hidden
  pub answered :
      HasAnsweredLines tells old (dropped ++ bytes) taken new (hidden ++ behind rest bytes) taken'

-- So it is, and the reader keeps what stands behind the last line feed.
pub record HasRead (tells : Bool) (old : SessionState) (bytes taken : List ℕ)
    (new : SessionState) (r : Reader) (taken' : List ℕ) : Type 0 where
  pub line : List ℕ
  pub keeps : Keeps r line
  pub answered : HasAnsweredLines tells old bytes taken new line taken'

-- The work ended early: the beginning of what is due to some first lines is written.
pub record HasStopped (tells : Bool) (old : SessionState)
    (bytes taken taken' : List ℕ) : Type 0 where
  pub lines : List (List ℕ)
  pub rest : List ℕ
  pub split : bytes ≡ ended lines ++ rest
  pub whole : All LacksFeed lines
  pub answers : List ℕ
  pub due : DuesLines old lines answers
  pub written : IsTrue tells → AppendsPrefix taken taken' answers

-- the last line, which no line feed ends, was answered, and all is written
pub record HasEnded (tells : Bool) (old : SessionState) (line taken : List ℕ)
    (new : SessionState) (taken' : List ℕ) : Type 0 where
  pub answer : List ℕ
  pub session : AnswersLine old new line line answer
  pub written : IsTrue tells → taken' ≡ taken ++ answer
