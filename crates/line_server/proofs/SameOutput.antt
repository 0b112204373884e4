-- Where the same replies are due and have the same texts, the outputs are the same.
use Rattle.std.proofs.Common.{ℕ, List}
use Rattle.reply_model.specs.declared.Command.{Command}
use Rattle.reply_model.specs.declared.Reply.{Reply}
use Rattle.reply_model.specs.Histories.{History}
use Rattle.line_server.specs.Answering.{Answering}
use Rattle.line_server.specs.Outputs.{IsAnswered, too_long, empty, bad, replied, AreAnswered, none, next, IsOutput}

module _ (first second : Answering)
    (due : (history : History) (c : Command) (x : Reply) → first.IsDue history c x → second.IsDue history c x)
    (text : (x : Reply) (bytes : List ℕ) → first.HasText x bytes → second.HasText x bytes) where
  answered_again :
      {history : History} {line words answer : List ℕ} {after : History}
      → IsAnswered first history line words answer after
      → IsAnswered second history line words answer after
  answered_again (too_long far) = too_long far
  answered_again (empty short e) = empty short e
  answered_again (bad short some n) = bad short some n
  answered_again {history} (replied short c x answer s d t) =
      replied short c x answer s (due history c x d) (text x answer t)

  lines_again :
      {before after : History} {lines : List (List ℕ)} {answers : List ℕ}
      → AreAnswered first before lines answers after → AreAnswered second before lines answers after
  lines_again (none history) = none history
  lines_again (next before between after line answer lines answers a rest) =
      next before between after line answer lines answers (answered_again a) (lines_again rest)

  pub output_again :
      (before : History) (bytes out : List ℕ) (after : History)
      → IsOutput first before bytes out after → IsOutput second before bytes out after
  output_again before bytes out after o = record {
    lines = o.lines;
    last = o.last;
    cut = o.cut;
    between = o.between;
    whole = o.whole;
    ending = o.ending;
    answers = lines_again o.answers;
    answer = answered_again o.answer;
    joined = o.joined;
  }
