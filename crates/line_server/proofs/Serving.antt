-- The way through a stream, piece by piece, and its ends.
use Rattle.std.proofs.Common.{◌≡◌, ◌≢◌, ℕ, ◌+◌, ◌≤◌, Bool, IsTrue, List, [], ◌++◌, length, refl, sym, ap, ◌∙◌, subst, arith}
use Rattle.std.proofs.lemmas.List.{append_assoc, append-nil, length-append}
use Rattle.std.proofs.lemmas.List.Elements.{All-nil, All-append}
use Rattle.way_io.specs.Pieces.{AppendsPrefix}
use Rattle.session_core.specs.Sessions.{SessionState}
use Rattle.line_server.specs.declared.reader.Reader.{Reader}
use Rattle.line_server.specs.declared.writing.Stop.{Stop}
use Rattle.line_server.specs.declared.writing.Stop.TheVariants.{Memory}
use Rattle.line_server.specs.declared.stream.Ending.TheVariants.{Done, ReadFault, InputTooLong}
use Rattle.line_server.specs.Lines.{feed, LacksFeed, AreCut, ended, most_of_stream}
use Rattle.line_server.specs.Outputs.{IsAnswered, AreAnswered, none, IsLinesOutput, IsOutput, of_lines, of_all}
use Rattle.line_server.specs.Sessions.{Continues, answering_of, AnswersLine, AnswersLines}
use Rattle.line_server.specs.Readers.{Keeps, HasRead, HasStopped, HasEnded, HasFailed, nothing, partly}
use Rattle.line_server.specs.Serving.{EndsAs, ends_done, ends_unread, ends_over, ends_stopped, ending_of}
use Rattle.line_server.proofs.Chains.{ended_append, answers_append, answers_then, answering_stays, no_lines}

-- So many bytes were read. The lines among them are answered and their answers written, and the reader keeps what stands behind.
pub record Serving (gives takes : Bool) (old : SessionState) (left taken : List ℕ) (now : SessionState) (r : Reader) (left' taken' : List ℕ) (total : ℕ) : Type 0 where
  pub bytes : List ℕ
  pub read : IsTrue gives → left ≡ bytes ++ left'
  pub count : length bytes ≡ total
  pub lines : List (List ℕ)
  pub line : List ℕ
  pub cut : AreCut bytes lines line
  pub keeps : Keeps r line
  pub answers : List ℕ
  pub session : AnswersLines old now lines answers
  pub written : IsTrue takes → taken' ≡ taken ++ answers

-- lines that were cut, and more that were cut behind them
cut_more : (bytes chunk : List ℕ) (lines more : List (List ℕ)) (line rest : List ℕ) → bytes ≡ ended lines ++ line → line ++ chunk ≡ ended more ++ rest → bytes ++ chunk ≡ ended (lines ++ more) ++ rest
cut_more bytes chunk lines more line rest e f =
    ap (λ l. l ++ chunk) e
    ∙ append_assoc (ended lines) line chunk
    ∙ ap (λ l. ended lines ++ l) f
    ∙ sym (append_assoc (ended lines) (ended more) rest)
    ∙ ap (λ l. l ++ rest) (sym (ended_append lines more))

module _ (gives takes : Bool) (old : SessionState) (left taken : List ℕ) where
  abbrev On : SessionState → Reader → List ℕ → List ℕ → ℕ → Type 0
  On now r left' taken' total = Serving gives takes old left taken now r left' taken' total

  pub starts : (r : Reader) → Keeps r [] → On old r left taken 0
  starts r k = record {
    bytes = [];
    read = λ _. refl;
    count = refl;
    lines = [];
    line = [];
    cut = record { split = refl; whole = All-nil LacksFeed; open_end = All-nil (λ byte. byte ≡ feed → ⊥) };
    keeps = k;
    answers = [];
    session = no_lines old;
    written = λ _. sym (append-nil taken);
  }

  -- the same after a read that gave nothing, or failed, of a reader that keeps the same
  pub again : (now : SessionState) (r after : Reader) (left' left'' taken' : List ℕ) (total : ℕ) → On now r left' taken' total → ((line : List ℕ) → Keeps r line → Keeps after line) → (IsTrue gives → left'' ≡ left') → On now after left'' taken' total
  again now r after left' left'' taken' total s keeps same = record {
    bytes = s.bytes;
    count = s.count;
    lines = s.lines;
    line = s.line;
    cut = s.cut;
    answers = s.answers;
    session = s.session;
    written = s.written;
    read = λ t. s.read t ∙ ap (λ l. s.bytes ++ l) (sym (same t));
    keeps = keeps s.line s.keeps;
  }

  module _ (now : SessionState) (r : Reader) (left' taken' : List ℕ) (total : ℕ) (s : On now r left' taken' total) where
    -- one more piece
    pub serves_on : (new : SessionState) (after : Reader) (chunk unread taken'' : List ℕ) (fresh : ℕ) → (IsTrue gives → left' ≡ chunk ++ unread) → length chunk ≡ fresh → HasRead takes now (s.line ++ chunk) taken' new after taken'' → On new after unread taken'' (total + fresh)
    serves_on new after chunk unread taken'' fresh next size h = record {
      bytes = s.bytes ++ chunk;
      read = λ t. s.read t ∙ ap (λ l. s.bytes ++ l) (next t) ∙ sym (append_assoc s.bytes chunk unread);
      count = length-append s.bytes chunk ∙ ap (λ n. n + length chunk) s.count ∙ ap (λ n. total + n) size;
      lines = s.lines ++ h.answered.lines;
      line = h.line;
      cut = record {
        split = cut_more s.bytes chunk s.lines h.answered.lines s.line h.line s.cut.split h.answered.cut.split;
        whole = All-append LacksFeed s.lines h.answered.lines s.cut.whole h.answered.cut.whole;
        open_end = h.answered.cut.open_end;
      };
      keeps = h.keeps;
      answers = s.answers ++ h.answered.answers;
      session = answers_then old now new s.lines h.answered.lines s.answers h.answered.answers s.session h.answered.session;
      written = λ t. h.answered.written t ∙ ap (λ l. l ++ h.answered.answers) (s.written t) ∙ append_assoc taken s.answers h.answered.answers;
    }

    -- what was written of the whole lines
    lines_output : Continues old now (λ before after. IsLinesOutput (answering_of old) before s.bytes s.answers after)
    lines_output = record {
      rules = s.session.rules;
      kind = s.session.kind;
      stands = λ before here. let it = s.session.stands before here in (it.0, record { lines = s.lines; rest = s.line; cut = s.cut; answers = it.1 }, it.2);
    }

    pub unread_end : total ≤ most_of_stream → EndsAs gives takes old left taken now left' taken' ReadFault
    unread_end few = ends_unread s.bytes s.answers s.read (subst (λ n. n ≤ most_of_stream) (sym s.count) few) lines_output s.written

    pub over_end : (more left'' : List ℕ) → (IsTrue gives → left' ≡ more ++ left'') → total ≡ most_of_stream → more ≢ [] → EndsAs gives takes old left taken now left'' taken' InputTooLong
    over_end more left'' next full some = ends_over s.bytes more s.answers (λ t. s.read t ∙ ap (λ l. s.bytes ++ l) (next t)) (s.count ∙ full) some lines_output s.written

    -- the output up to the last line feed, and what answers the rest
    whole_output : (new : SessionState) (answer : List ℕ) → AnswersLine now new s.line s.line answer → Continues old new (λ before after. IsOutput (answering_of old) before s.bytes (s.answers ++ answer) after)
    whole_output new answer a = record {
      rules = a.rules ∙ s.session.rules;
      kind = a.kind ∙ s.session.kind;
      stands = λ before here.
          let first = s.session.stands before here in
          let second = a.stands first.0 first.2 in
          (second.0, record { lines = s.lines; last = s.line; cut = s.cut; between = first.0; whole = s.answers; ending = answer; answers = first.1; answer = answering_stays (λ answering. IsAnswered answering first.0 s.line s.line answer second.0) old now s.session.rules s.session.kind second.1; joined = refl }, second.2);
    }

    pub done_end : (new : SessionState) (left'' taken'' : List ℕ) → total ≤ most_of_stream → (IsTrue gives → left' ≡ []) → (IsTrue gives → left'' ≡ []) → HasEnded takes now s.line taken' new taken'' → EndsAs gives takes old left taken new left'' taken'' Done
    done_end new left'' taken'' few empty still h =
        ends_done s.bytes (s.answers ++ h.answer) (λ t. (s.read t ∙ ap (λ l. s.bytes ++ l) (empty t) ∙ append-nil s.bytes, still t)) (subst (λ n. n ≤ most_of_stream) (sym s.count) few) (whole_output new h.answer h.session) (λ t. h.written t ∙ ap (λ l. l ++ h.answer) (s.written t) ∙ append_assoc taken s.answers h.answer)

    -- the beginning of an answer is written, behind those that are
    behind_answers : (taken'' answer : List ℕ) → (IsTrue takes → AppendsPrefix taken' taken'' answer) → IsTrue takes → AppendsPrefix taken taken'' (s.answers ++ answer)
    behind_answers taken'' answer w t =
        let p = w t in
        record {
          rest = p.rest;
          sent = record {
            sent = s.answers ++ p.sent.sent;
            split = ap (λ l. s.answers ++ l) p.sent.split ∙ sym (append_assoc s.answers p.sent.sent p.rest);
            appended = p.sent.appended ∙ ap (λ l. l ++ p.sent.sent) (s.written t) ∙ append_assoc taken s.answers p.sent.sent;
          };
        }

    -- the work stopped at the last line
    pub failed_end : (stop : Stop) (new : SessionState) (left'' taken'' : List ℕ) → total ≤ most_of_stream → (IsTrue gives → left' ≡ []) → (IsTrue gives → left'' ≡ []) → HasFailed takes now s.line s.line taken' [] taken'' → EndsAs gives takes old left taken new left'' taken'' (ending_of stop)
    failed_end stop new left'' taken'' few empty still (nothing w) =
        ends_stopped stop s.bytes s.answers
        (λ t. s.read t ∙ ap (λ l. s.bytes ++ l) (empty t ∙ sym (still t)))
        (λ t before here. let it = lines_output.stands before here in of_lines s.bytes left' s.answers it.0 (s.read t) (subst (λ n. n ≤ most_of_stream) (sym s.count) few) it.1)
        (λ t. subst (AppendsPrefix taken taken'') (append-nil s.answers) (behind_answers taken'' [] w t))
    failed_end stop new left'' taken'' few empty still (partly answer due w) =
        let all : IsTrue gives → left ≡ s.bytes = λ t. s.read t ∙ ap (λ l. s.bytes ++ l) (empty t) ∙ append-nil s.bytes in
        ends_stopped stop s.bytes (s.answers ++ answer)
        (λ t. s.read t ∙ ap (λ l. s.bytes ++ l) (empty t ∙ sym (still t)))
        (λ t before here.
        let first = s.session.stands before here in
        let second = due first.0 first.2 in
        of_all (s.answers ++ answer) second.0 (subst (λ l. length l ≤ most_of_stream) (sym (all t)) (subst (λ n. n ≤ most_of_stream) (sym s.count) few))
        (record { lines = s.lines; last = s.line; cut = record { split = all t ∙ s.cut.split; whole = s.cut.whole; open_end = s.cut.open_end }; between = first.0; whole = s.answers; ending = answer; answers = first.1; answer = answering_stays (λ answering. IsAnswered answering first.0 s.line s.line answer second.0) old now s.session.rules s.session.kind second.1; joined = refl }))
        (behind_answers taken'' answer w)

    -- the work stopped in a piece
    pub stopped_end : (stop : Stop) (new : SessionState) (chunk more left'' taken'' : List ℕ) (fresh : ℕ) → (IsTrue gives → left' ≡ chunk ++ (more ++ left'')) → length chunk ≡ fresh → total + fresh ≤ most_of_stream → HasStopped takes now (s.line ++ chunk) taken' taken'' → EndsAs gives takes old left taken new left'' taken'' (ending_of stop)
    stopped_end stop new chunk more left'' taken'' fresh next size few h =
        let lines : List (List ℕ) = s.lines ++ h.lines in
        let split : s.bytes ++ chunk ≡ ended lines ++ h.rest = cut_more s.bytes chunk s.lines h.lines s.line h.rest s.cut.split h.split in
        let counted : length (ended lines) + length h.rest ≡ total + fresh = sym (length-append (ended lines) h.rest) ∙ ap length (sym split) ∙ length-append s.bytes chunk ∙ ap (λ n. n + length chunk) s.count ∙ ap (λ n. total + n) size in
        let given : IsTrue gives → left ≡ (s.bytes ++ chunk) ++ (more ++ left'') = λ t. s.read t ∙ ap (λ l. s.bytes ++ l) (next t) ∙ sym (append_assoc s.bytes chunk (more ++ left'')) in
        let front : IsTrue gives → left ≡ ended lines ++ (h.rest ++ (more ++ left'')) = λ t. given t ∙ ap (λ l. l ++ (more ++ left'')) split ∙ append_assoc (ended lines) h.rest (more ++ left'') in
        ends_stopped stop ((s.bytes ++ chunk) ++ more) (s.answers ++ h.answers)
        (λ t. given t ∙ sym (append_assoc (s.bytes ++ chunk) more left''))
        (λ t before here.
        let first = s.session.stands before here in
        let second = h.due first.0 first.2 in
        of_lines (ended lines) (h.rest ++ (more ++ left'')) (s.answers ++ h.answers) second.0 (front t) (omega (arith, counted, few))
        (record { lines = lines; rest = []; cut = record { split = sym (append-nil (ended lines)); whole = All-append LacksFeed s.lines h.lines s.cut.whole h.whole; open_end = All-nil (λ byte. byte ≡ feed → ⊥) }; answers = answers_append (answering_of old) first.0 second.0 h.lines h.answers first.1 (answering_stays (λ answering. AreAnswered answering first.0 h.lines h.answers second.0) old now s.session.rules s.session.kind second.1) }))
        (behind_answers taken'' h.answers h.written)

  -- there is no memory to begin with
  pub no_room : EndsAs gives takes old left taken old left taken (ending_of Memory)
  no_room = ends_stopped Memory [] [] (λ _. refl)
      (λ t before here. of_lines [] left [] before refl (omega arith) (record { lines = []; rest = []; cut = record { split = refl; whole = All-nil LacksFeed; open_end = All-nil (λ byte. byte ≡ feed → ⊥) }; answers = none before }))
      (λ _. record { rest = []; sent = record { sent = []; split = refl; appended = sym (append-nil taken) } })
