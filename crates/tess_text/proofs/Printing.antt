-- The text of a list of entries.
use Rattle.std.proofs.Common.{◌≡◌, ℕ, List, [], ◌∷◌, ◌++◌, refl, sym, ◌∙◌, ap, append_assoc}
use Rattle.tess_text.specs.declared.entry.Entry.{Entry}
use Rattle.tess_text.specs.Text.{entry_text, entries_text}

pub entries_text-append : (es fs : List Entry) → entries_text (es ++ fs) ≡ entries_text es ++ entries_text fs
entries_text-append [] fs = refl
entries_text-append (e ∷ es) fs = ap (λ (l : List ℕ). entry_text e ++ l) (entries_text-append es fs) ∙ sym (append_assoc (entry_text e) (entries_text es) (entries_text fs))
