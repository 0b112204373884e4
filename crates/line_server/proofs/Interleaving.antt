-- What stands between the lines that make and move walkers does not matter to where walkers are.
use Rattle.std.proofs.Common.{◌≡◌, ℕ, List, [], ◌∷◌, ◌++◌, refl, sym, ap, ◌∙◌, subst, arith}
use Rattle.std.proofs.lemmas.List.{append_assoc, append-nil}
use Rattle.reply_model.specs.declared.Command.{Command}
use Rattle.reply_model.specs.declared.Reply.{Reply}
use Rattle.reply_model.specs.Histories.{History}
use Rattle.reply_laws.specs.Laws.{as_move, moves, InterleavingsAgree}
use Rattle.reply_laws.proofs.Histories.{none_due}
use Rattle.command_text.specs.CommandLines.{IsSpelling}
use Rattle.command_text.specs.Laws.{LinesSpellOne}
use Rattle.line_server.specs.Lines.{text_of}
use Rattle.line_server.specs.Answering.{Answering}
use Rattle.line_server.specs.Outputs.{IsAnswered, too_long, empty, bad, replied, AreAnswered, none, next}
use Rattle.line_server.specs.Laws.{Spells, HaveMoves, no_lines, spells_one, spells_none, StreamsInterleave}
use Rattle.line_server.proofs.OneOutput.{nothing_spelt}
use Rattle.line_server.proofs.Due.{lines_stay_due}

moves_append : (history more : History) → moves (history ++ more) ≡ moves history ++ moves more
moves_append [] more = refl
moves_append (event ∷ history) more =
    ap (λ (l : List Command). as_move event.0 ++ l) (moves_append history more)
    ∙ sym (append_assoc (as_move event.0) (moves history) (moves more))

module _ (answering : Answering) (one : LinesSpellOne) where
  -- the answer to a line that spells a command is a reply to it
  pub record IsReplied (history : History) (c : Command) (answer : List ℕ) (after : History) : Type 0 where
    pub reply : Reply
    pub due : answering.IsDue history c reply
    pub text : answering.HasText reply answer
    pub longer : after ≡ history ++ (c, reply) ∷ []

  of_spelling : {history after : History} {line answer : List ℕ} (c : Command) → Spells line c → IsAnswered answering history line (text_of line) answer after → IsReplied history c answer after
  of_spelling c s (too_long far) = absurd (omega (arith, far, s.short))
  of_spelling {history} {after} {line} c s (empty short e) = absurd (nothing_spelt c (subst (λ t. IsSpelling t c) e s.spelling))
  of_spelling c s (bad short some n) = absurd (n c s.spelling)
  of_spelling {history} {after} {line} c s (replied short d x answer t due said) =
      let same : d ≡ c = one (text_of line) d c t s.spelling in
      record { reply = x; due = subst (λ b. answering.IsDue history b x) same due; text = said; longer = ap (λ b. history ++ (b, x) ∷ []) same }

  -- the answer to a line that spells none leaves the history
  of_none : {history after : History} {line answer : List ℕ} → ((c : Command) → ¬ (Spells line c)) → IsAnswered answering history line (text_of line) answer after → after ≡ history
  of_none n (too_long far) = refl
  of_none n (empty short e) = refl
  of_none n (bad short some m) = refl
  of_none n (replied short c x answer s due said) = absurd (n c (record { short = short; spelling = s }))

  -- the moves among the lines are those that they lead to
  moves_of : {before after : History} {lines : List (List ℕ)} {answers : List ℕ} {ms : List Command} → HaveMoves lines ms → AreAnswered answering before lines answers after → moves after ≡ moves before ++ ms
  moves_of no_lines (none history) = sym (append-nil (moves history))
  moves_of (spells_one _ _ c ms s h) (next before between after line answer lines answers a rest) =
      let it = of_spelling c s a in
      moves_of h rest
      ∙ ap (λ (g : History). moves g ++ ms) it.longer
      ∙ ap (λ (l : List Command). l ++ ms) (moves_append before ((c, it.reply) ∷ []))
      ∙ append_assoc (moves before) (moves ((c, it.reply) ∷ [])) ms
      ∙ ap (λ (l : List Command). moves before ++ (l ++ ms)) (append-nil (as_move c))
  moves_of (spells_none _ _ ms n h) (next before between after line answer lines answers a rest) =
      moves_of h rest ∙ ap (λ (g : History). moves g ++ ms) (of_none n a)

  pub streams_interleave :
      ((history : History) (c : Command) (x y : Reply) → answering.IsDue history c x → answering.IsDue history c y → x ≡ y)
      → ((x : Reply) (bytes others : List ℕ) → answering.HasText x bytes → answering.HasText x others → bytes ≡ others)
      → InterleavingsAgree answering.IsDue
      → StreamsInterleave answering
  streams_interleave one_reply one_text agree lines others ms first second answers replies after another a b c line other answer reply then following asks s t said also =
      let here = of_spelling c s said in
      let there = of_spelling c t also in
      let same : moves after ≡ moves another = moves_of first a ∙ sym (moves_of second b) in
      let nothing = none_due answering.IsDue in
      let due : answering.IsDue another c here.reply = agree after another (lines_stay_due answering nothing a) (lines_stay_due answering nothing b) same c here.reply asks here.due in
      let equal : here.reply ≡ there.reply = one_reply another c here.reply there.reply due there.due in
      one_text there.reply answer reply (subst (λ z. answering.HasText z answer) equal here.text) there.text
