-- How the work on a stream ended, whatever its source and its sink tell.
use Rattle.std.specs.Prelude.{◌≡◌, ◌≢◌, ℕ, ◌≤◌, Bool, IsTrue, List, [], ◌++◌, length}
use Rattle.way_io.specs.Pieces.{AppendsPrefix}
use Rattle.session_core.specs.Sessions.{SessionState, StandsForWalks}
use Rattle.line_server.specs.declared.stream.Ending.{Ending}
use Rattle.line_server.specs.declared.stream.Ending.TheVariants.{Done, ReadFault, InputTooLong, WriteFault, Memory}
use Rattle.line_server.specs.declared.writing.Stop.{Stop}
use Rattle.line_server.specs.declared.writing.Stop.TheVariants.{Write, Memory as NoMemory}
use Rattle.line_server.specs.Lines.{most_of_stream}
use Rattle.reply_model.specs.Histories.{History}
use Rattle.line_server.specs.Outputs.{IsLinesOutput, IsOutput, IsFrontOutput}
use Rattle.line_server.specs.Sessions.{Continues, answering_of}

-- the ending that a stop leads to
abbrev pub ending_of : Stop → Ending
ending_of Write = WriteFault
ending_of NoMemory = Memory

-- The session went from one state to another while a stream, or its whole lines, had this output.
abbrev pub SessionAnswers : SessionState → SessionState → (bytes out : List ℕ) → Type 0
SessionAnswers old new bytes out =
    Continues old new (λ before after. IsOutput (answering_of old) before bytes out after)

abbrev pub AnswersWholeLines : SessionState → SessionState → (bytes out : List ℕ) → Type 0
AnswersWholeLines old new bytes out =
    Continues old new (λ before after. IsLinesOutput (answering_of old) before bytes out after)

-- This is the output of some first lines of the stream, after each history that the session stands
-- for.
abbrev pub DuesFront : SessionState → (left out : List ℕ) → Type 0
DuesFront old left out =
    (before : History) → StandsForWalks old before
    → IsFrontOutput (answering_of old) before left out

module _ (gives takes : Bool) (old : SessionState) (left taken : List ℕ)
    (new : SessionState) (left' taken' : List ℕ) where
  pub data EndsAs : Ending → Type 0 where
    ends_done :
        (bytes out : List ℕ)
        → (IsTrue gives → (left ≡ bytes) × (left' ≡ []))
        → length bytes ≤ most_of_stream
        → SessionAnswers old new bytes out
        → (IsTrue takes → taken' ≡ taken ++ out)
        → EndsAs Done
    ends_unread :
        (bytes out : List ℕ)
        → (IsTrue gives → left ≡ bytes ++ left')
        → length bytes ≤ most_of_stream
        → AnswersWholeLines old new bytes out
        → (IsTrue takes → taken' ≡ taken ++ out)
        → EndsAs ReadFault
    ends_over :
        (bytes more out : List ℕ)
        → (IsTrue gives → left ≡ bytes ++ (more ++ left'))
        → length bytes ≡ most_of_stream
        → more ≢ []
        → AnswersWholeLines old new bytes out
        → (IsTrue takes → taken' ≡ taken ++ out)
        → EndsAs InputTooLong
    ends_stopped :
        (stop : Stop) (bytes out : List ℕ)
        → (IsTrue gives → left ≡ bytes ++ left')
        → (IsTrue gives → DuesFront old left out)
        → (IsTrue takes → AppendsPrefix taken taken' out)
        → EndsAs (ending_of stop)
