-- What is written of the answers to the commands of the input, in a call that serves walkers.
-- `left` and `taken` are what the source had left and the sink had taken before; `left'` and
-- `taken'` are what they have afterwards.
use Rattle.std.specs.Prelude.{◌≡◌, ℕ, List, [], ◌++◌}
use Rattle.way_io.specs.Pieces.{AppendsPrefix}
use Rattle.reply_model.specs.Histories.{History}
use Rattle.line_server.specs.Answering.{Answering}
use Rattle.walker_run.specs.declared.line.Line.TheVariants.{InputTooLong}
use Rattle.walker_run.specs.Lines.{text_of}
use Rattle.line_server.specs.Endings.{IsServed, IsCutOff, IsOverrun, IsBegun}

-- the line of an input that is too long
abbrev pub too_long_line : List ℕ
too_long_line = text_of InputTooLong

-- `answering` tells what commands are answered with. At first there are no walkers.
module _ (answering : Answering) where
  -- The source was read to its end, and exactly the output of all its bytes was appended.
  pub record OutputStands (left left' taken taken' : List ℕ) : Type 0 where
    pub after : History
    pub served : IsServed answering [] left left' taken taken' after

  -- Exactly the output of the whole lines among the bytes that were read was appended.
  pub record LinesStand (left left' taken taken' : List ℕ) : Type 0 where
    pub after : History
    pub cut : IsCutOff answering [] left left' taken taken' after

  -- There are more bytes than a stream may have.
  -- The output of the lines that end within the limit was appended, up to `between`.
  pub record StandsUpTo (left taken between : List ℕ) : Type 0 where
    pub after : History
    pub overrun : IsOverrun answering [] left taken between after

  -- So it is, and then the line of the status was appended.
  pub record RefusalStands (left taken taken' : List ℕ) : Type 0 where
    pub between : List ℕ
    pub lines : StandsUpTo left taken between
    pub line : taken' ≡ between ++ too_long_line

  -- The beginning of what would otherwise stand was appended: of the output, or of all of it within
  -- the limit and the line of the status.
  pub data BeginningStands (left taken taken' : List ℕ) : Type 0 where
    of_output : IsBegun answering [] left taken taken' → BeginningStands left taken taken'
    of_refusal :
        (between : List ℕ)
        → StandsUpTo left taken between
        → AppendsPrefix between taken' too_long_line
        → BeginningStands left taken taken'
