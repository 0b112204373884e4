-- The lines of a file, and the words of a line.
use Rattle.std.specs.Prelude.{ℕ, Bool, ◌==◌, ◌||◌, if◌then◌else◌, true, false, List, [], ◌∷◌, map, filter}
use Rattle.std.specs.List.{before_first, slice_split, onto_first}

-- Each line ends at a line feed. What stands behind the last line feed is a line too, where
-- anything does.
abbrev pub lines : List ℕ → List (List ℕ)
lines [] = []
lines (b ∷ bytes) = if b == 10 then [] ∷ lines bytes else onto_first b (lines bytes)

-- what stands of a line before its comment, which begins at the first #
abbrev pub content : List ℕ → List ℕ
content line = before_first (λ b. b == 35) line

-- spaces, tabs and carriage returns separate words
abbrev pub is_separator : ℕ → Bool
is_separator b = (b == 32) || (b == 9) || (b == 13)

-- whether there is an element
abbrev pub is_nonempty : {X : Type 0} → List X → Bool
is_nonempty [] = false
is_nonempty (x ∷ xs) = true

-- the words of a text: what stands between separators, where anything does
unfoldable pub words : List ℕ → List (List ℕ)
words text = filter is_nonempty (slice_split is_separator text)

-- the words of each line of a file
abbrev pub word_lines : List ℕ → List (List (List ℕ))
word_lines bytes = map (λ line. words (content line)) (lines bytes)
