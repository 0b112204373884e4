-- Each line has an answer, and each stream an output.
use Rattle.std.proofs.Common.{◌≡◌, ◌≢◌, ℕ, ◌<◌, ◌≤◌, ◌⊎◌, inl, inr, List, [], ◌∷◌, ◌++◌, length, refl, ap, ap₂}
use Rattle.std.proofs.lemmas.Bool.{cases_eq, cases_lt}
use Rattle.std.proofs.lemmas.List.Elements.{All-nil, All-cons, All-head, All-tail}
use Rattle.reply_model.specs.declared.Command.{Command}
use Rattle.reply_model.specs.declared.Reply.{Reply}
use Rattle.reply_model.specs.Histories.{History}
use Rattle.command_text.specs.CommandLines.{most_of_line, IsSpelling, SpellsNothing}
use Rattle.command_text.specs.Laws.{LinesAreDecided}
use Rattle.line_server.specs.Lines.{feed, LacksFeed, AreCut, text_of}
use Rattle.line_server.specs.Answering.{Answering}
use Rattle.line_server.specs.Outputs.{IsAnswered, too_long, empty, bad, replied, too_long_text, bad_text, AreAnswered, none, next, IsOutput}

abbrev IsNoFeed : ℕ → Type 0
IsNoFeed byte = byte ≢ feed

-- bytes, cut into lines
pub record CutInto (bytes : List ℕ) : Type 0 where
  pub lines : List (List ℕ)
  pub rest : List ℕ
  pub cut : AreCut bytes lines rest

-- one byte more in front, which belongs to the first line, or to what is no line yet
longer :
    (byte : ℕ) (bytes : List ℕ) → byte ≢ feed → (lines : List (List ℕ)) (rest : List ℕ)
    → AreCut bytes lines rest → CutInto (byte ∷ bytes)
longer byte bytes other [] rest c = record {
  lines = [];
  rest = byte ∷ rest;
  cut = record {
    split = ap (λ (l : List ℕ). byte ∷ l) c.split;
    whole = All-nil LacksFeed;
    open_end = All-cons IsNoFeed byte rest other c.open_end;
  };
}
longer byte bytes other (line ∷ lines) rest c = record {
  lines = (byte ∷ line) ∷ lines;
  rest = rest;
  cut = record {
    split = ap (λ (l : List ℕ). byte ∷ l) c.split;
    whole =
        All-cons LacksFeed (byte ∷ line) lines
        (All-cons IsNoFeed byte line other (All-head LacksFeed line lines c.whole))
        (All-tail LacksFeed line lines c.whole);
    open_end = c.open_end;
  };
}

pub cut_into : (bytes : List ℕ) → CutInto bytes
cut_into [] =
    record { lines = []; rest = []; cut = record { split = refl; whole = All-nil LacksFeed; open_end = All-nil IsNoFeed } }
cut_into (byte ∷ bytes) = go (cases_eq byte feed) (cut_into bytes) where
  go : (byte ≡ feed) ⊎ (byte ≢ feed) → CutInto bytes → CutInto (byte ∷ bytes)
  go (inl is) c = record {
    lines = [] ∷ c.lines;
    rest = c.rest;
    cut = record {
      split = ap₂ (λ (b : ℕ) (l : List ℕ). b ∷ l) is c.cut.split;
      whole = All-cons LacksFeed [] c.lines (All-nil IsNoFeed) c.cut.whole;
      open_end = c.cut.open_end;
    };
  }
  go (inr other) c = longer byte bytes other c.lines c.rest c.cut

module _ (answering : Answering) (decided : LinesAreDecided)
    (some : (history : History) (c : Command) → (x : Reply) × answering.IsDue history c x)
    (some_text : (history : History) (c : Command) (x : Reply) → answering.IsDue history c x → (bytes : List ℕ) × answering.HasText x bytes) where
  -- an answer, and the history behind it
  abbrev Answered : (history : History) (line text : List ℕ) → Type 0
  Answered history line text =
      (answer : List ℕ) × (after : History) × IsAnswered answering history line text answer after

  spelt :
      (history : History) (line text : List ℕ) → length line ≤ most_of_line → text ≢ []
      → ((c : Command) × IsSpelling text c) ⊎ SpellsNothing text → Answered history line text
  spelt history line text short full (inr nothing) = (bad_text, history, bad short full nothing)
  spelt history line text short full (inl it) =
      let reply = some history it.0 in
      let words = some_text history it.0 reply.0 reply.1 in
      (words.0, history ++ (it.0, reply.0) ∷ [], replied short it.0 reply.0 words.0 it.1 reply.1 words.1)

  of_text :
      (history : History) (line text : List ℕ) → length line ≤ most_of_line
      → Answered history line text
  of_text history line [] short = ([], history, empty short refl)
  of_text history line (byte ∷ text) short =
      spelt history line (byte ∷ text) short (λ e. absurd (cc)) (decided (byte ∷ text))

  pub some_answer : (history : History) (line text : List ℕ) → Answered history line text
  some_answer history line text = go (cases_lt most_of_line (length line)) where
    go : (most_of_line < length line) ⊎ (length line ≤ most_of_line) → Answered history line text
    go (inl far) = (too_long_text, history, too_long far)
    go (inr short) = of_text history line text short

  pub some_answers :
      (before : History) (lines : List (List ℕ))
      → (answers : List ℕ) × (after : History) × AreAnswered answering before lines answers after
  some_answers before [] = ([], before, none before)
  some_answers before (line ∷ lines) =
      let first = some_answer before line (text_of line) in
      let then = some_answers first.1 lines in
      (first.0 ++ then.0, then.1, next before first.1 then.1 line first.0 lines then.0 first.2 then.2)

  pub some_output :
      (before : History) (bytes : List ℕ)
      → (out : List ℕ) × (after : History) × IsOutput answering before bytes out after
  some_output before bytes =
      let c = cut_into bytes in
      let lines = some_answers before c.lines in
      let last = some_answer lines.1 c.rest c.rest in (
        lines.0 ++ last.0,
        last.1,
        record {
          lines = c.lines;
          last = c.rest;
          cut = c.cut;
          between = lines.1;
          whole = lines.0;
          ending = last.0;
          answers = lines.2;
          answer = last.2;
          joined = refl;
        },
      )
