-- The lines of replies.
use Rattle.std.specs.Prelude.{◌≡◌, ℕ, List, [], ◌∷◌, ◌++◌, length, take, codes, decimal}
use Rattle.reply_model.specs.declared.Reply.{Reply}
use Rattle.reply_model.specs.declared.Reply.TheVariants.{Done, At, Yes, No, Level, Dist, Path, NoWalker, Taken, Deep}
use Rattle.reply_model.specs.declared.Reply.TheVariants.{Text, NoText, Tiles, Count}
use Rattle.reply_model.specs.declared.Reply.TheVariants.{Long, Far, TooBig, TooMany}
use Rattle.tile_model.specs.declared.Letter.{Letter}
use Rattle.tile_model.specs.WalkTexts.{walk_text}
use Rattle.cell_names.specs.Text.{name_text}
use Rattle.command_text.specs.CommandLines.{space, spaced}

-- what ends a line
abbrev pub line_feed : List ℕ
line_feed = 10 ∷ []

-- `at NAME SPIN KIND`
abbrev pub place_words : List ℕ → ℕ → ℕ → List ℕ
place_words name spin kind = spaced (codes "at" ∷ name_text name ∷ decimal spin ∷ decimal kind ∷ [])

-- a word and a number, as in `level N`
abbrev pub number_words : List ℕ → ℕ → List ℕ
number_words word number = word ++ space ∷ decimal number

-- `path LETTERS`
abbrev pub path_words : List Letter → List ℕ
path_words walk = codes "path" ++ space ∷ walk_text walk

-- `text TEXT`: the space stands also in front of a text that has no bytes
abbrev pub text_words : List ℕ → List ℕ
text_words text = codes "text" ++ space ∷ text

-- the words of a reply; of one that lists a ring those of its first line, which tells how many
-- names follow
abbrev pub reply_words : Reply → List ℕ
reply_words Done = codes "ok"
reply_words (At name spin kind) = place_words name spin kind
reply_words Yes = codes "yes"
reply_words No = codes "no"
reply_words (Level crossings) = number_words (codes "level") crossings
reply_words (Dist crossings) = number_words (codes "dist") crossings
reply_words (Path walk) = path_words walk
reply_words NoWalker = codes "no walker"
reply_words Taken = codes "taken"
reply_words Deep = codes "deep"
reply_words (Text text) = text_words text
reply_words NoText = codes "none"
reply_words (Tiles d size) = number_words (codes "tiles") size
reply_words (Count size) = number_words (codes "count") size
reply_words Long = codes "long"
reply_words Far = codes "far"
reply_words (TooBig r) = number_words (codes "too big") r
reply_words (TooMany size) = number_words (codes "too many") size

-- the line of a reply, with its line feed
abbrev pub reply_text : Reply → List ℕ
reply_text x = reply_words x ++ line_feed

-- the bytes begin with these
abbrev pub StandsInFront : List ℕ → List ℕ → Type 0
StandsInFront bytes front = take (length front) bytes ≡ front
