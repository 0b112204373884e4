-- The history to which an output leads is due.
use Rattle.std.proofs.Common.{ℕ, List}
use Rattle.reply_model.specs.Histories.{History, AreDue}
use Rattle.reply_laws.proofs.Histories.{due_push}
use Rattle.line_server.specs.Answering.{Answering}
use Rattle.line_server.specs.Outputs.{IsAnswered, too_long, empty, bad, replied, AreAnswered, none, next}
use Rattle.line_server.specs.Laws.{HistoriesStayDue}

module _ (answering : Answering) where
  stays_due :
      {before after : History} {line text answer : List ℕ} → AreDue answering.IsDue before
      → IsAnswered answering before line text answer after → AreDue answering.IsDue after
  stays_due due (too_long far) = due
  stays_due due (empty short e) = due
  stays_due due (bad short some n) = due
  stays_due {before} due (replied short c x answer s d t) =
      due_push answering.IsDue before c x due d

  pub lines_stay_due :
      {before after : History} {lines : List (List ℕ)} {answers : List ℕ}
      → AreDue answering.IsDue before → AreAnswered answering before lines answers after
      → AreDue answering.IsDue after
  lines_stay_due due (none history) = due
  lines_stay_due due (next before between after line answer lines answers a rest) =
      lines_stay_due (stays_due due a) rest

  pub outputs_lead_to_due : HistoriesStayDue answering
  outputs_lead_to_due before bytes out after due o =
      stays_due (lines_stay_due due o.answers) o.answer
