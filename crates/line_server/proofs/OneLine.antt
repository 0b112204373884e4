-- One line, answered whole.
use Rattle.std.proofs.Common.{◌≡◌, ◌↔◌, ℕ, ◌<◌, Bool, false, IsTrue, List, [], ◌++◌, length, refl, ap, ◌∙◌, subst, arith}
use Rattle.std.proofs.lemmas.Bool.{false≢true}
use Rattle.std.proofs.lemmas.List.{append_assoc}
use Rattle.std.specs.Prelude.{Option}
use Rattle.command_text.specs.CommandLines.{most_of_line}
use Rattle.session_core.specs.Sessions.{SessionState}
use Rattle.line_server.specs.Answering.{name_lines}
use Rattle.line_server.specs.Lines.{text_of}
use Rattle.line_server.specs.Readers.{AreDropped, IsMeasured, HasAnsweredLine, AreNames}
use Rattle.line_server.specs.Sessions.{AnswersLine}
use Rattle.line_server.specs.Whole.{HasAnsweredWhole}
use Rattle.line_server.proofs.Answering.{measured, now_named}

-- of a line that is handed over whole nothing was dropped
none_dropped : AreDropped false []
none_dropped = record {
  some = λ e. absurd (false≢true e);
  none = λ _. refl;
  within = λ k d below. absurd (omega (arith, below));
}

pub whole_measured :
    (is_long : Bool) (line text : List ℕ)
    → ((dropped : List ℕ) → AreDropped false dropped
    → IsTrue is_long ↔ (most_of_line < length (dropped ++ line)))
    → IsMeasured is_long text line text
whole_measured is_long line text long =
    measured is_long false [] text line text none_dropped (long [] none_dropped) (λ _. refl)

-- the names stand behind the rest of the answer
pub whole_of :
    (old new : SessionState) (line text waiting waiting' waiting'' : List ℕ) (o p : Option ℕ)
    (names : List (List ℕ))
    → text ≡ text_of line → o ≡ p
    → HasAnsweredLine old line text waiting new waiting' o
    → AreNames new p names
    → waiting'' ≡ waiting' ++ name_lines names
    → HasAnsweredWhole old line waiting new waiting''
whole_of old new line text waiting waiting' waiting'' o p names is same told named e =
    let a = now_named old new line text waiting waiting' o p same told in
    let answer = a.front ++ name_lines names in
    record {
      answer = answer;
      waits =
          e ∙ ap (λ l. l ++ name_lines names) a.waits
          ∙ append_assoc waiting a.front (name_lines names);
      session = subst (λ t. AnswersLine old new line t answer) is (a.session names named);
    }
