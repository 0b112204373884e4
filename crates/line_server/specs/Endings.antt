-- How far a stream was answered when the work on it ended.
-- `left` and `taken` are what the source had left and the sink had taken before,
-- `left'` and `taken'` what they have afterwards.
use Rattle.std.specs.Prelude.{◌≡◌, ◌≢◌, ℕ, ◌≤◌, List, [], ◌++◌, length}
use Rattle.way_io.specs.Pieces.{AppendsPrefix}
use Rattle.line_server.specs.Lines.{most_of_stream}
use Rattle.reply_model.specs.Histories.{History}
use Rattle.line_server.specs.Answering.{Answering}
use Rattle.line_server.specs.Outputs.{IsLinesOutput, IsOutput, IsFrontOutput}

-- the source gave its bytes in their order
pub record GivesInOrder (left left' : List ℕ) : Type 0 where
  pub given : List ℕ
  pub split : left ≡ given ++ left'

-- what the sink had taken still stands in front
pub record TakesMore (taken taken' : List ℕ) : Type 0 where
  pub more : List ℕ
  pub all : taken' ≡ taken ++ more

module _ (answering : Answering) (before : History) where
  -- The source was read to its end, and the output of all its bytes was written.
  pub record IsServed (left left' taken taken' : List ℕ) (after : History) : Type 0 where
    pub read : left' ≡ []
    pub within : length left ≤ most_of_stream
    pub out : List ℕ
    pub output : IsOutput answering before left out after
    pub written : taken' ≡ taken ++ out

  -- Some bytes were read, within the limit.
  -- The output was written of the lines among them that line feeds end.
  pub record IsCutOff (left left' taken taken' : List ℕ) (after : History) : Type 0 where
    pub bytes : List ℕ
    pub read : left ≡ bytes ++ left'
    pub within : length bytes ≤ most_of_stream
    pub out : List ℕ
    pub output : IsLinesOutput answering before bytes out after
    pub written : taken' ≡ taken ++ out

  -- There are more bytes than a stream may have.
  -- The output was written of the lines whose line feed stands within the limit.
  pub record IsOverrun (left taken taken' : List ℕ) (after : History) : Type 0 where
    pub bytes : List ℕ
    pub more : List ℕ
    pub split : left ≡ bytes ++ more
    pub full : length bytes ≡ most_of_stream
    pub over : more ≢ []
    pub out : List ℕ
    pub output : IsLinesOutput answering before bytes out after
    pub written : taken' ≡ taken ++ out

  -- The beginning of the output was written.
  pub record IsBegun (left taken taken' : List ℕ) : Type 0 where
    pub out : List ℕ
    pub output : IsFrontOutput answering before left out
    pub written : AppendsPrefix taken taken' out
