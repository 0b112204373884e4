-- What a reader keeps of a line that has not ended.
use Rattle.std.proofs.Common.{◌≡◌, ℕ, ◌+◌, ◌-◌, ◌<◌, ◌≤◌, ◌⊎◌, inl, inr, Bool, true, false, List, [], ◌++◌, length, take, drop, refl, sym, ap, ◌∙◌, subst, arith}
use Rattle.std.specs.List.{copy_within}
use Rattle.std.proofs.Math.Seq.{paste, take-add}
use Rattle.std.proofs.lemmas.Bool.{false≢true}
use Rattle.std.proofs.lemmas.List.{append_assoc, length-append, length-take, length-drop, drop-take, append-nil}
use Rattle.std.proofs.lemmas.List.Edits.{take-paste}
use Rattle.std.proofs.lemmas.List.Elements.{All-nil}
use Rattle.session_core.specs.Sessions.{SessionState}
use Rattle.line_server.specs.declared.reader.Reader.{Reader}
use Rattle.command_text.specs.CommandLines.{most_of_line}
use Rattle.line_server.specs.Lines.{feed, LacksFeed}
use Rattle.line_server.specs.Readers.{Keeps, AreDropped, HasAnsweredLines, HasComeTo, HasRead, HasStopped, behind}

-- the last bytes are as many as they should be
pub length_behind :
    (rest : ℕ) (bytes : List ℕ) → rest ≤ length bytes → length (behind rest bytes) ≡ rest
length_behind rest bytes within = length-drop (length bytes - rest) bytes ∙ omega (arith, within)

-- the last bytes of the first ones, moved to the front
pub moved :
    (buffer : List ℕ) (end rest : ℕ) → rest ≤ end → end ≤ length buffer
    → take rest (copy_within buffer (end - rest) end 0) ≡ behind rest (take end buffer)
moved buffer end rest within inside =
    let from : ℕ = end - rest in
    let count : end - from ≡ rest = omega (arith, within) in
    let upto : from + rest ≡ end = omega (arith, within) in
    let zero : rest ≡ 0 + rest = omega arith in
    let long : rest ≤ length (drop from buffer) =
    rw (length-drop from buffer) (omega (arith, within, inside)) in
    let size : length (take end buffer) ≡ end = length-take end buffer ∙ omega (arith, inside) in
    ap (λ n. take rest (paste buffer 0 (drop from buffer) n)) count
    ∙ ap (λ n. take n (paste buffer 0 (drop from buffer) rest)) zero
    ∙ take-paste buffer 0 (drop from buffer) rest (omega arith) long
    ∙ sym (drop-take from rest buffer)
    ∙ ap (λ n. drop from (take n buffer)) upto
    ∙ ap (λ n. drop (n - rest) (take end buffer)) (sym size)

pub keeps_none :
    (r : Reader) (dropped tail : List ℕ) (lost : Bool) (rest : ℕ) → r.lost ≡ true → r.kept ≡ 0
    → AreDropped lost dropped → length tail ≡ rest → (lost ≡ true) ⊎ (most_of_line < rest)
    → LacksFeed (dropped ++ tail) → Keeps r (dropped ++ tail)
keeps_none r dropped tail lost rest is none d size why lacks = record {
  kept = λ f. absurd (false≢true (sym f ∙ is));
  long = λ _. rw (length-append dropped tail) (long why);
  empty = λ _. none;
  within = lacks;
} where
  long : (lost ≡ true) ⊎ (most_of_line < rest) → most_of_line < length dropped + length tail
  long (inl f) = omega (arith, d.some f)
  long (inr f) = omega (arith, f, size)

pub keeps_rest :
    (r : Reader) (dropped tail : List ℕ) (lost : Bool) → r.lost ≡ false
    → tail ≡ take r.kept r.buffer.items → lost ≡ false → AreDropped lost dropped
    → LacksFeed (dropped ++ tail) → Keeps r (dropped ++ tail)
keeps_rest r dropped tail lost is e f d lacks = record {
  kept = λ _. ap (λ l. l ++ tail) (d.none f) ∙ e;
  long = λ g. absurd (false≢true (sym is ∙ g));
  empty = λ g. absurd (false≢true (sym is ∙ g));
  within = lacks;
}

-- a line that has not ended: what was dropped of it, and what is kept
pub splits :
    (r : Reader) (line : List ℕ) → Keeps r line
    → (dropped : List ℕ) × AreDropped r.lost dropped ×
    (dropped ++ take r.kept r.buffer.items ≡ line)
splits r line k = go r.lost refl where
  go :
      (b : Bool) → r.lost ≡ b
      → (dropped : List ℕ) × AreDropped r.lost dropped ×
      (dropped ++ take r.kept r.buffer.items ≡ line)
  go true e =
      (line, record { some = λ _. k.long e; none = λ f. absurd (false≢true (sym f ∙ e)); within = k.within }, ap (λ n. line ++ take n r.buffer.items) (k.empty e) ∙ append-nil line)
  go false e =
      ([], record { some = λ f. absurd (false≢true (sym e ∙ f)); none = λ _. refl; within = All-nil (λ byte. byte ≡ feed → ⊥) }, sym (k.kept e))

-- and so with the bytes behind it
pub splits_fresh :
    (r : Reader) (line : List ℕ) (fresh : ℕ) → Keeps r line
    → (dropped : List ℕ) × AreDropped r.lost dropped ×
    (dropped ++ take (r.kept + fresh) r.buffer.items ≡ line ++ take fresh (drop r.kept r.buffer.items))
splits_fresh r line fresh k =
    let it = splits r line k in
    (it.0, it.1, ap (λ l. it.0 ++ l) (take-add r.kept fresh r.buffer.items) ∙ sym (append_assoc it.0 (take r.kept r.buffer.items) (take fresh (drop r.kept r.buffer.items))) ∙ ap (λ l. l ++ take fresh (drop r.kept r.buffer.items)) it.2)

module _ (tells : Bool) (old : SessionState) (r : Reader) (line : List ℕ) (fresh : ℕ) (bytes taken : List ℕ) (k : Keeps r line) (e : bytes ≡ take (r.kept + fresh) r.buffer.items) where
  -- what was read of the line, with the bytes behind it
  abbrev all : List ℕ
  all = line ++ take fresh (drop r.kept r.buffer.items)

  pub stopped_at :
      (taken' : List ℕ)
      → ((dropped : List ℕ) → AreDropped r.lost dropped → HasStopped tells old (dropped ++ bytes) taken taken')
      → HasStopped tells old all taken taken'
  stopped_at taken' told =
      let it = splits_fresh r line fresh k in
      subst (λ l. HasStopped tells old l taken taken') (ap (λ l. it.0 ++ l) e ∙ it.2)
      (told it.0 it.1)

  pub has_read :
      (new : SessionState) (after : Reader) (rest : ℕ) (lost : Bool) (taken' : List ℕ)
      → ((dropped : List ℕ) → AreDropped r.lost dropped → HasComeTo tells old dropped bytes taken new rest lost taken')
      → ((dropped : List ℕ) → AreDropped lost dropped → LacksFeed (dropped ++ behind rest bytes) → Keeps after (dropped ++ behind rest bytes))
      → HasRead tells old all taken new after taken'
  has_read new after rest lost taken' told keeps =
      let it = splits_fresh r line fresh k in
      let come = told it.0 it.1 in
      record {
        line = come.hidden ++ behind rest bytes;
        keeps = keeps come.hidden come.are_dropped come.answered.cut.open_end;
        answered =
            subst
            (λ l. HasAnsweredLines tells old l taken new (come.hidden ++ behind rest bytes) taken')
            (ap (λ l. it.0 ++ l) e ∙ it.2) come.answered;
      }
