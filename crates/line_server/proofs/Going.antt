-- On the way through the lines of a piece.
use Rattle.std.proofs.Common.{◌≡◌, ℕ, ◌-◌, Bool, false, List, [], ◌∷◌, ◌++◌, length, drop, refl, sym, ap, ◌∙◌, subst}
use Rattle.std.specs.List.{All}
use Rattle.std.proofs.Math.Nat.{add-sub_cancel}
use Rattle.std.proofs.Math.Seq.{drop-append_seam}
use Rattle.std.proofs.lemmas.Bool.{false≢true}
use Rattle.std.proofs.lemmas.List.{append_assoc, append-nil, length-append}
use Rattle.std.proofs.lemmas.List.Elements.{All-nil, All-push, All-append}
use Rattle.session_core.specs.Sessions.{SessionState}
use Rattle.line_server.specs.Lines.{feed, LacksFeed, ended, text_of}
use Rattle.line_server.specs.Outboxes.{HasSaid, HasBroken}
use Rattle.line_server.specs.Sessions.{AnswersLines, DuesLine}
use Rattle.line_server.specs.Readers.{AreDropped, HasReplied, HasFailed, nothing, partly, HasComeTo, HasStopped}
use Rattle.line_server.proofs.Saying.{says_none, says_then, breaks_then, breaks_same, says_same, all_said}
use Rattle.line_server.proofs.Chains.{ended_append, answers_then, line_alone, no_lines, dues_then, dues_so_far}

-- Some lines of the bytes were answered, and their answers were said.
-- What is hidden was dropped, and `rest` stands behind it.
pub record Going (tells : Bool) (old : SessionState) (dropped bytes taken : List ℕ) (now : SessionState) (lost : Bool) (rest taken' waiting : List ℕ) : Type 0 where
  pub lines : List (List ℕ)
  pub hidden : List ℕ
  pub split : dropped ++ bytes ≡ ended lines ++ (hidden ++ rest)
  pub whole : All LacksFeed lines
  pub are_dropped : AreDropped lost hidden
  pub answers : List ℕ
  pub session : AnswersLines old now lines answers
  pub said : HasSaid tells taken [] answers taken' waiting

-- what stands behind a line and its line feed
cut_on :
    (front hidden line behind : List ℕ)
    → front ++ (hidden ++ (line ++ feed ∷ behind)) ≡ (front ++ ((hidden ++ line) ++ feed ∷ [])) ++
    behind
cut_on front hidden line behind =
    ap (λ l. front ++ l)
    (sym (append_assoc hidden line (feed ∷ behind)) ∙ sym (append_assoc (hidden ++ line) (feed ∷ []) behind))
    ∙ sym (append_assoc front ((hidden ++ line) ++ feed ∷ []) behind)

-- the text of a line's end is that of the line, unless its beginning was dropped
pub text_behind :
    (hidden line text : List ℕ) (lost : Bool) → AreDropped lost hidden → text ≡ text_of line
    → lost ≡ false → text_of (hidden ++ line) ≡ text
text_behind hidden line text lost d e kept = ap (λ l. text_of (l ++ line)) (d.none kept) ∙ sym e

module _ (tells : Bool) (old : SessionState) (dropped bytes taken : List ℕ) where
  abbrev On : SessionState → Bool → List ℕ → List ℕ → List ℕ → Type 0
  On now lost rest taken' waiting = Going tells old dropped bytes taken now lost rest taken' waiting

  pub begins :
      (lost : Bool) (waiting : List ℕ) → waiting ≡ [] → AreDropped lost dropped
      → On old lost bytes taken waiting
  begins lost waiting none d = record {
    lines = [];
    hidden = dropped;
    split = refl;
    whole = All-nil LacksFeed;
    are_dropped = d;
    answers = [];
    session = no_lines old;
    said = subst (λ l. HasSaid tells taken [] [] taken l) (sym none) (says_none tells taken []);
  }

  module _ (now : SessionState) (lost : Bool) (rest taken' waiting line behind : List ℕ) (g : On now lost rest taken' waiting) (e : rest ≡ line ++ feed ∷ behind) (lacks : LacksFeed line) where
    -- the lines with this one, of which the beginning may have been dropped
    abbrev more_lines : List (List ℕ)
    more_lines = g.lines ++ (g.hidden ++ line) ∷ []

    split_more : dropped ++ bytes ≡ ended more_lines ++ behind
    split_more =
        g.split
        ∙ ap (λ l. ended g.lines ++ (g.hidden ++ l)) e
        ∙ cut_on (ended g.lines) g.hidden line behind
        ∙ ap (λ l. l ++ behind) (sym (ended_append g.lines ((g.hidden ++ line) ∷ [])))

    whole_more : All LacksFeed more_lines
    whole_more =
        All-push LacksFeed g.lines (g.hidden ++ line) g.whole
        (All-append (λ byte. byte ≡ feed → ⊥) g.hidden line g.are_dropped.within lacks)

    -- one more line was answered
    goes_on :
        (new : SessionState) (taken'' waiting'' : List ℕ)
        → HasReplied tells now (g.hidden ++ line) (text_of (g.hidden ++ line)) taken' waiting new
        taken'' waiting''
        → On new false behind taken'' waiting''
    goes_on new taken'' waiting'' r = record {
      lines = more_lines;
      hidden = [];
      split = split_more;
      whole = whole_more;
      are_dropped =
          record { some = λ f. absurd (false≢true f); none = λ _. refl; within = All-nil (λ byte. byte ≡ feed → ⊥) };
      answers = g.answers ++ r.answer;
      session =
          answers_then old now new g.lines ((g.hidden ++ line) ∷ []) g.answers r.answer g.session
          (line_alone now new (g.hidden ++ line) r.answer r.session);
      said =
          says_then tells taken [] g.answers taken' waiting r.answer taken'' waiting'' g.said
          r.said;
    }

    -- of its answer the beginning was written
    stops_within :
        (taken'' answer : List ℕ)
        → DuesLine now (g.hidden ++ line) (text_of (g.hidden ++ line)) answer
        → HasBroken tells taken' waiting answer taken''
        → HasStopped tells old (dropped ++ bytes) taken taken''
    stops_within taken'' answer d b = record {
      lines = more_lines;
      rest = behind;
      split = split_more;
      whole = whole_more;
      answers = g.answers ++ answer;
      due = dues_then old now g.lines (g.hidden ++ line) g.answers answer g.session d;
      written = breaks_then tells taken [] g.answers taken' waiting answer taken'' g.said b;
    }

  -- something failed before more was said
  pub stops :
      (now : SessionState) (lost : Bool) (rest taken' waiting taken'' : List ℕ)
      → On now lost rest taken' waiting → HasBroken tells taken' waiting [] taken''
      → HasStopped tells old (dropped ++ bytes) taken taken''
  stops now lost rest taken' waiting taken'' g b = record {
    lines = g.lines;
    rest = g.hidden ++ rest;
    split = g.split;
    whole = g.whole;
    answers = g.answers;
    due = dues_so_far old now g.lines g.answers g.session;
    written =
        breaks_same tells taken [] (g.answers ++ []) g.answers taken'' (append-nil g.answers)
        (breaks_then tells taken [] g.answers taken' waiting [] taken'' g.said b);
  }

  pub replied :
      (now new : SessionState) (lost : Bool)
      (rest taken' waiting line behind taken'' waiting'' : List ℕ)
      → On now lost rest taken' waiting → rest ≡ line ++ feed ∷ behind → LacksFeed line
      → ((hidden : List ℕ) → AreDropped lost hidden → HasReplied tells now (hidden ++ line) (text_of (hidden ++ line)) taken' waiting new taken'' waiting'')
      → On new false behind taken'' waiting''
  replied now new lost rest taken' waiting line behind taken'' waiting'' g e lacks told =
      goes_on now lost rest taken' waiting line behind g e lacks new taken'' waiting''
      (told g.hidden g.are_dropped)

  pub failed :
      (now : SessionState) (lost : Bool) (rest taken' waiting line behind taken'' : List ℕ)
      → On now lost rest taken' waiting → rest ≡ line ++ feed ∷ behind → LacksFeed line
      → ((hidden : List ℕ) → AreDropped lost hidden → HasFailed tells now (hidden ++ line) (text_of (hidden ++ line)) taken' waiting taken'')
      → HasStopped tells old (dropped ++ bytes) taken taken''
  failed now lost rest taken' waiting line behind taken'' g e lacks told = go (told g.hidden g.are_dropped) where
    go :
        HasFailed tells now (g.hidden ++ line) (text_of (g.hidden ++ line)) taken' waiting taken''
        → HasStopped tells old (dropped ++ bytes) taken taken''
    go (nothing b) = stops now lost rest taken' waiting taken'' g b
    go (partly answer d b) =
        stops_within now lost rest taken' waiting line behind g e lacks taken'' answer d b

  -- the end of the piece
  pub comes :
      (now : SessionState) (lost : Bool) (front rest taken' waiting taken'' waiting'' : List ℕ)
      → On now lost rest taken' waiting → HasSaid tells taken' waiting [] taken'' waiting''
      → waiting'' ≡ [] → bytes ≡ front ++ rest → LacksFeed rest
      → HasComeTo tells old dropped bytes taken now (length rest) lost taken''
  comes now lost front rest taken' waiting taken'' waiting'' g w none e lacks =
      let count : length bytes - length rest ≡ length front =
      ap (λ l. length l - length rest) e
      ∙ ap (λ n. n - length rest) (length-append front rest)
      ∙ add-sub_cancel (length front) (length rest) in
      let tail : drop (length bytes - length rest) bytes ≡ rest =
      ap (λ n. drop n bytes) count
      ∙ ap (λ l. drop (length front) l) e
      ∙ drop-append_seam front rest in
      let said =
      says_same tells taken [] (g.answers ++ []) g.answers taken'' waiting''
      (append-nil g.answers)
      (says_then tells taken [] g.answers taken' waiting [] taken'' waiting'' g.said w) in
      record {
        hidden = g.hidden;
        are_dropped = g.are_dropped;
        answered = record {
          lines = g.lines;
          cut = record {
            split = g.split ∙ ap (λ l. ended g.lines ++ (g.hidden ++ l)) (sym tail);
            whole = g.whole;
            open_end =
                subst LacksFeed (ap (λ l. g.hidden ++ l) (sym tail))
                (All-append (λ byte. byte ≡ feed → ⊥) g.hidden rest g.are_dropped.within lacks);
          };
          answers = g.answers;
          session = g.session;
          written = all_said tells taken g.answers taken'' waiting'' said none;
        };
      }
