-- The lines of a stream of bytes.
use Rattle.std.specs.Prelude.{◌≡◌, ◌≢◌, ℕ, List, [], ◌∷◌, ◌++◌}
use Rattle.std.specs.List.{All}
use Rattle.std.specs.Str.Lines.{strip_carriage_return}
use Rattle.line_server.specs.declared.stream.TheConstants.{LONGEST_STREAM}

-- the byte that ends a line
abbrev pub feed : ℕ
feed = 10

-- the most bytes of a stream
abbrev pub most_of_stream : ℕ
most_of_stream = LONGEST_STREAM

-- no byte ends a line
abbrev pub LacksFeed : List ℕ → Type 0
LacksFeed bytes = All (λ byte. byte ≢ feed) bytes

-- lines, each with the line feed that ends it
abbrev pub ended : List (List ℕ) → List ℕ
ended [] = []
ended (line ∷ lines) = line ++ feed ∷ ended lines

-- The bytes are these lines, each ended by a line feed, and then bytes without one.
pub record AreCut (bytes : List ℕ) (lines : List (List ℕ)) (rest : List ℕ) : Type 0 where
  pub split : bytes ≡ ended lines ++ rest
  pub whole : All LacksFeed lines
  pub open_end : LacksFeed rest

-- The text of a line that a line feed ends: the line without the carriage return that stands last
-- in it, if one does.
abbrev pub text_of : List ℕ → List ℕ
text_of line = strip_carriage_return line
