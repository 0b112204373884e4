-- Answers to lines, one after the other.
use Rattle.std.proofs.Common.{◌≡◌, ℕ, List, [], ◌∷◌, ◌++◌, refl, sym, ap, ◌∙◌, subst}
use Rattle.std.proofs.lemmas.List.{append_assoc, append-nil}
use Rattle.structure_check.specs.Rules.{TreeRules}
use Rattle.session_core.specs.Sessions.{SessionState}
use Rattle.line_server.specs.Lines.{feed, ended, text_of}
use Rattle.reply_model.specs.Histories.{History}
use Rattle.line_server.specs.Answering.{Answering, over_walks}
use Rattle.line_server.specs.Outputs.{IsAnswered, AreAnswered, none, next}
use Rattle.line_server.specs.Sessions.{answering_of, AnswersLine, AnswersLines, DuesLine, DuesLines}

pub ended_append : (lines more : List (List ℕ)) → ended (lines ++ more) ≡ ended lines ++ ended more
ended_append [] more = refl
ended_append (line ∷ lines) more =
    ap (λ l. line ++ feed ∷ l) (ended_append lines more)
    ∙ sym (append_assoc line (feed ∷ ended lines) (ended more))

module _ (answering : Answering) where
  pub answers_append :
      {before : History} (between after : History) {lines : List (List ℕ)} {answers : List ℕ}
      (more : List (List ℕ)) (others : List ℕ)
      → AreAnswered answering before lines answers between
      → AreAnswered answering between more others after
      → AreAnswered answering before (lines ++ more) (answers ++ others) after
  answers_append between after more others (none history) b = b
  answers_append between after more others (next before middle _ line answer lines answers a rest) b =
      subst (λ l. AreAnswered answering before (line ∷ (lines ++ more)) l after)
      (sym (append_assoc answer answers others))
      (next before middle after line answer (lines ++ more) (answers ++ others) a (answers_append between after more others rest b))

  pub one_answer :
      (before after : History) (line answer : List ℕ)
      → IsAnswered answering before line (text_of line) answer after
      → AreAnswered answering before (line ∷ []) answer after
  one_answer before after line answer a =
      subst (λ l. AreAnswered answering before (line ∷ []) l after) (append-nil answer)
      (next before after after line answer [] [] a (none after))

-- how a session answers hangs on its rules and its kind alone
abbrev answering_by : TreeRules → ℕ → Answering
answering_by rules k = over_walks rules.kinds rules.automaton k

pub answering_stays :
    (P : Answering → Type 0) (s t : SessionState) → t.rules ≡ s.rules → t.kind ≡ s.kind
    → P (answering_of t) → P (answering_of s)
answering_stays P s t e f p =
    subst (λ k. P (answering_by s.rules k)) f (subst (λ r. P (answering_by r t.kind)) e p)

-- lines and then more lines
pub answers_then :
    (s t u : SessionState) (lines more : List (List ℕ)) (answers others : List ℕ)
    → AnswersLines s t lines answers → AnswersLines t u more others
    → AnswersLines s u (lines ++ more) (answers ++ others)
answers_then s t u lines more answers others a b = record {
  rules = b.rules ∙ a.rules;
  kind = b.kind ∙ a.kind;
  stands = λ before here.
      let first = a.stands before here in
      let second = b.stands first.0 first.2 in
      (second.0, answers_append (answering_of s) first.0 second.0 more others first.1 (answering_stays (λ answering. AreAnswered answering first.0 more others second.0) s t a.rules a.kind second.1), second.2);
}

pub line_alone :
    (s t : SessionState) (line answer : List ℕ) → AnswersLine s t line (text_of line) answer
    → AnswersLines s t (line ∷ []) answer
line_alone s t line answer a = record {
  rules = a.rules;
  kind = a.kind;
  stands = λ before here. let one = a.stands before here in (one.0, one_answer (answering_of s) before one.0 line answer one.1, one.2);
}

pub no_lines : (s : SessionState) → AnswersLines s s [] []
no_lines s =
    record { rules = refl; kind = refl; stands = λ before here. (before, none before, here) }

-- what is due to lines and then to one more, whose answer may not all be written
pub dues_then :
    (s t : SessionState) (lines : List (List ℕ)) (line answers answer : List ℕ)
    → AnswersLines s t lines answers → DuesLine t line (text_of line) answer
    → DuesLines s (lines ++ line ∷ []) (answers ++ answer)
dues_then s t lines line answers answer a d = λ before here.
    let first = a.stands before here in
    let second = d first.0 first.2 in
    (second.0, answers_append (answering_of s) first.0 second.0 (line ∷ []) answer first.1 (one_answer (answering_of s) first.0 second.0 line answer (answering_stays (λ answering. IsAnswered answering first.0 line (text_of line) answer second.0) s t a.rules a.kind second.1)))

pub dues_so_far :
    (s t : SessionState) (lines : List (List ℕ)) (answers : List ℕ) → AnswersLines s t lines answers
    → DuesLines s lines answers
dues_so_far s t lines answers a = λ before here. let it = a.stands before here in (it.0, it.1)
