-- Texts of logs, one line more at a time.
use Rattle.std.proofs.Common.{◌≡◌, ◌≢◌, ℕ, suc, ◌<◌, List, [], ◌∷◌, ◌++◌, length, sym, ap, ◌∙◌, append_assoc, arith}
use Rattle.std.specs.Prelude.{All}
use Rattle.std.proofs.lemmas.List.{append-nil, nil_from_length}
use Rattle.tile_model.specs.Relation.{Change}
use Rattle.log_model.specs.LogTexts.{HasText, change_text, log_text, StartsBad, IsFirstBadLine}

-- the text of a log with one change more
log_text-push : (log : List Change) (c : Change) (rest : List ℕ) → log_text (log ++ c ∷ []) ++ rest ≡ log_text log ++ (change_text c ++ 10 ∷ rest)
log_text-push [] c rest = append_assoc (change_text c) (10 ∷ []) rest
log_text-push (b ∷ log) c rest =
    append_assoc (change_text b) (10 ∷ log_text (log ++ c ∷ [])) rest
    ∙ ap (λ (l : List ℕ). change_text b ++ 10 ∷ l) (log_text-push log c rest)
    ∙ sym (append_assoc (change_text b) (10 ∷ log_text log) (change_text c ++ 10 ∷ rest))

-- the line of a change taken from the bytes that are left
pub line_read : (bytes rest behind : List ℕ) (log : List Change) (c : Change) → bytes ≡ log_text log ++ rest → rest ≡ change_text c ++ 10 ∷ behind → bytes ≡ log_text (log ++ c ∷ []) ++ behind
line_read bytes rest behind log c split line =
    split ∙ ap (λ (l : List ℕ). log_text log ++ l) line ∙ sym (log_text-push log c behind)

-- where bytes are left, they begin with the first bad line
pub bad_behind : (bytes rest : List ℕ) (log : List Change) (n : ℕ) → All HasText log → bytes ≡ log_text log ++ rest → (rest ≢ [] → StartsBad rest) → 0 < length rest → n ≡ suc (length log) → IsFirstBadLine bytes n
bad_behind bytes rest log n texts split bad left number = record {
  before = log;
  have_text = texts;
  rest = rest;
  split = split;
  number = number;
  bad = bad (λ none. omega (arith, ap length none, left));
}

-- where none are, they are the text of the log
pub all_read : (bytes rest : List ℕ) (log : List Change) → bytes ≡ log_text log ++ rest → length rest ≡ 0 → log_text log ≡ bytes
all_read bytes rest log split ended =
    sym (append-nil (log_text log)) ∙ ap (λ (l : List ℕ). log_text log ++ l) (sym (nil_from_length rest ended)) ∙ sym split
