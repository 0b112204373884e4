-- Texts on tiles: which names have one, and which.
use Rattle.std.specs.Prelude.{ℕ, nat_eq, List, Option}
use Rattle.std.specs.Cmp.Lexicographic.{pointwise}
use Rattle.std.specs.List.{IsDistinct}
use Rattle.std.specs.Map.{keys_of, lookup}
use Rattle.lazy_map.specs.declared.map.TheConstants.{LONGEST_TEXT}

-- the most bytes of a text
abbrev pub longest_text : ℕ
longest_text = LONGEST_TEXT

-- the most names that have a text
abbrev pub most_texts : ℕ
most_texts = 4294967295

-- names, each with its text
abbrev pub Texts : Type 0
Texts = List (List ℕ × List ℕ)

-- the text under a name, if the name has one
abbrev pub text_under : Texts → List ℕ → Option (List ℕ)
text_under texts name = lookup (pointwise nat_eq name) texts

-- no name stands twice, so there are as many names with a text as entries
abbrev pub HasNoDoubles : Texts → Type 0
HasNoDoubles texts = IsDistinct (pointwise nat_eq) (keys_of texts)
