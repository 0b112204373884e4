-- The last line of a stream, which no line feed ends.
use Rattle.std.proofs.Common.{◌≡◌, ℕ, Bool, List, [], ◌++◌, take, sym, ap, ◌∙◌, subst}
use Rattle.std.proofs.lemmas.List.{append-nil}
use Rattle.session_core.specs.Sessions.{SessionState}
use Rattle.line_server.specs.declared.reader.Reader.{Reader}
use Rattle.line_server.specs.Outboxes.{HasSaid, HasBroken}
use Rattle.line_server.specs.Readers.{Keeps, AreDropped, IsTextBehind, HasReplied, HasEnded, HasFailed, partly}
use Rattle.line_server.proofs.Keeping.{splits}
use Rattle.line_server.proofs.Saying.{says_then, says_same, breaks_then, breaks_same, all_said}

-- what is told of the end that is kept of a line is told of the line
pub told_of_line :
    (P : List ℕ → List ℕ → Type 0) (r : Reader) (line last : List ℕ) → Keeps r line
    → last ≡ take r.kept r.buffer.items
    → ((dropped whole : List ℕ) → AreDropped r.lost dropped → IsTextBehind r.lost last whole → P (dropped ++ last) whole)
    → P line line
told_of_line P r line last k e told =
    let it = splits r line k in
    let whole : it.0 ++ last ≡ line = ap (λ l. it.0 ++ l) e ∙ it.2 in
    subst (λ l. P l line) whole (told it.0 line it.1 (λ f. k.kept f ∙ sym e))

pub replied_last :
    (tells : Bool) (old new : SessionState) (r : Reader)
    (line last taken waiting taken' waiting' : List ℕ)
    → Keeps r line → last ≡ take r.kept r.buffer.items
    → ((dropped whole : List ℕ) → AreDropped r.lost dropped → IsTextBehind r.lost last whole → HasReplied tells old (dropped ++ last) whole taken waiting new taken' waiting')
    → HasReplied tells old line line taken waiting new taken' waiting'
replied_last tells old new r line last taken waiting taken' waiting' =
    told_of_line (λ l t. HasReplied tells old l t taken waiting new taken' waiting') r line last

pub failed_last :
    (tells : Bool) (old : SessionState) (r : Reader) (line last taken waiting taken' : List ℕ)
    → waiting ≡ [] → Keeps r line → last ≡ take r.kept r.buffer.items
    → ((dropped whole : List ℕ) → AreDropped r.lost dropped → IsTextBehind r.lost last whole → HasFailed tells old (dropped ++ last) whole taken waiting taken')
    → HasFailed tells old line line taken [] taken'
failed_last tells old r line last taken waiting taken' none k e told =
    subst (λ l. HasFailed tells old line line taken l taken') none
    (told_of_line (λ l t. HasFailed tells old l t taken waiting taken') r line last k e told)

module _ (tells : Bool) (old new : SessionState) (line taken waiting taken' waiting' : List ℕ) (none : waiting ≡ []) (r : HasReplied tells old line line taken waiting new taken' waiting') where
  said_at_first : HasSaid tells taken [] r.answer taken' waiting'
  said_at_first = subst (λ l. HasSaid tells taken l r.answer taken' waiting') none r.said

  -- and all was written
  pub ends :
      (taken'' waiting'' : List ℕ) → HasSaid tells taken' waiting' [] taken'' waiting''
      → waiting'' ≡ [] → HasEnded tells old line taken new taken''
  ends taken'' waiting'' w empty =
      let said =
      says_same tells taken [] (r.answer ++ []) r.answer taken'' waiting'' (append-nil r.answer)
      (says_then tells taken [] r.answer taken' waiting' [] taken'' waiting'' said_at_first w) in
      record { answer = r.answer; session = r.session; written = all_said tells taken r.answer taken'' waiting'' said empty }

  -- or a write failed
  pub fails_writing :
      (taken'' : List ℕ) → HasBroken tells taken' waiting' [] taken''
      → HasFailed tells old line line taken [] taken''
  fails_writing taken'' b =
      partly r.answer (λ before here. let it = r.session.stands before here in (it.0, it.1))
      (breaks_same tells taken [] (r.answer ++ []) r.answer taken'' (append-nil r.answer) (breaks_then tells taken [] r.answer taken' waiting' [] taken'' said_at_first b))
