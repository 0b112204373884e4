-- What a session goes through while it answers lines.
use Rattle.std.specs.Prelude.{◌≡◌, ℕ, List}
use Rattle.session_core.specs.Sessions.{SessionState, StandsForWalks}
use Rattle.reply_model.specs.Histories.{History}
use Rattle.line_server.specs.Answering.{Answering, over_walks}
use Rattle.line_server.specs.Outputs.{IsAnswered, AreAnswered}

-- the answers over the rules and the kind of the session, by what walks say
abbrev pub answering_of : SessionState → Answering
answering_of session = over_walks session.rules.kinds session.rules.automaton session.kind

-- The session keeps its rules and its kind.
-- For each history that it stood for before, it stands afterwards for one to which `Step` leads.
pub record Continues (old new : SessionState) (Step : History → History → Type 0) : Type 0 where
  pub rules : new.rules ≡ old.rules
  pub kind : new.kind ≡ old.kind
  pub stands :
      (before : History) → StandsForWalks old before
      → (after : History) × Step before after × StandsForWalks new after

-- the session answered a line with this text
abbrev pub AnswersLine : SessionState → SessionState → (line text answer : List ℕ) → Type 0
AnswersLine old new line text answer =
    Continues old new (λ before after. IsAnswered (answering_of old) before line text answer after)

-- the session answered lines that line feeds end
abbrev pub AnswersLines : SessionState → SessionState → List (List ℕ) → (answers : List ℕ) → Type 0
AnswersLines old new lines answers =
    Continues old new (λ before after. AreAnswered (answering_of old) before lines answers after)

-- this answer is due to a line with this text, after each history that the session stands for
abbrev pub DuesLine : SessionState → (line text answer : List ℕ) → Type 0
DuesLine old line text answer =
    (before : History) → StandsForWalks old before
    → (after : History) × IsAnswered (answering_of old) before line text answer after

-- these answers are due to these lines
abbrev pub DuesLines : SessionState → List (List ℕ) → (answers : List ℕ) → Type 0
DuesLines old lines answers =
    (before : History) → StandsForWalks old before
    → (after : History) × AreAnswered (answering_of old) before lines answers after
