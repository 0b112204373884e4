-- One line, answered whole.
use Rattle.std.specs.Prelude.{◌≡◌, ℕ, List, ◌++◌}
use Rattle.session_core.specs.Sessions.{SessionState}
use Rattle.line_server.specs.Lines.{text_of}
use Rattle.line_server.specs.Sessions.{AnswersLine}

-- The session answered a line that a line feed ends, and the whole answer waits behind what waited.
pub record HasAnsweredWhole (old : SessionState) (line waiting : List ℕ)
    (new : SessionState) (waiting' : List ℕ) : Type 0 where
  pub answer : List ℕ
  pub waits : waiting' ≡ waiting ++ answer
  pub session : AnswersLine old new line (text_of line) answer
