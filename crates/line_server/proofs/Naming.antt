-- Names that are said one after the other.
use Rattle.std.proofs.Common.{◌≡◌, ℕ, Bool, List, [], ◌∷◌, ◌++◌, sym, ap, ◌∙◌}
use Rattle.std.proofs.lemmas.List.{append_assoc, append-nil}
use Rattle.cell_names.specs.Text.{name_text}
use Rattle.command_text.specs.Replies.{line_feed}
use Rattle.line_server.specs.Answering.{name_lines}
use Rattle.line_server.specs.Outboxes.{HasSaid, HasBroken}
use Rattle.line_server.proofs.Saying.{says_waiting, says_then, says_same, breaks_then, breaks_same}

module _
    (front : List ℕ) (all rest : List (List ℕ)) (name : List ℕ) (tail : List (List ℕ))
    (so_far : name_lines all ≡ front ++ name_lines rest) (first : rest ≡ name ∷ tail)
  where
    -- what was said, with one name more, and then those that are left
    pub names_on :
        (left : List (List ℕ)) → left ≡ tail →
        name_lines all ≡ (front ++ (name_text name ++ line_feed)) ++ name_lines left
    names_on left same =
        so_far
        ∙ ap (λ l. front ++ name_lines l) first
        ∙ sym (append_assoc front (name_text name ++ line_feed) (name_lines tail))
        ∙ ap (λ l. (front ++ (name_text name ++ line_feed)) ++ name_lines l) (sym same)

-- A name and what ends its line wait behind what waited, and then what waits is written, or not.
module _
    (tells : Bool) (taken waiting first second name feed taken' : List ℕ)
    (named : first ≡ waiting ++ name) (ended : second ≡ first ++ feed)
  where
    says_line : HasSaid tells taken waiting (name ++ feed) taken second
    says_line =
        says_waiting tells taken waiting (name ++ feed) second
        (ended ∙ ap (λ l. l ++ feed) named ∙ append_assoc waiting name feed)

    pub passes_line :
        (waiting' : List ℕ) → HasSaid tells taken second [] taken' waiting'
        → HasSaid tells taken waiting (name ++ feed) taken' waiting'
    passes_line waiting' said =
        says_same tells taken waiting ((name ++ feed) ++ []) (name ++ feed) taken' waiting'
        (append-nil (name ++ feed))
        (says_then tells taken waiting (name ++ feed) taken second [] taken' waiting' says_line said)

    pub breaks_line :
        HasBroken tells taken second [] taken' → HasBroken tells taken waiting (name ++ feed) taken'
    breaks_line broken =
        breaks_same tells taken waiting ((name ++ feed) ++ []) (name ++ feed) taken'
        (append-nil (name ++ feed))
        (breaks_then tells taken waiting (name ++ feed) taken second [] taken' says_line broken)
