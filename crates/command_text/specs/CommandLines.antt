-- The lines that spell commands: a word, and then words that say what the command is told.
-- A text is one such word, the last of its line, whatever its bytes are: it may have spaces, or none.
use Rattle.std.specs.Prelude.{◌≡◌, ℕ, ◌<◌, List, [], ◌∷◌, codes}
use Rattle.std.specs.List.{join_with_byte}
use Rattle.short_numbers.specs.Numbers.{IsNumber}
use Rattle.tile_model.specs.declared.Letter.{Letter}
use Rattle.reply_model.specs.declared.Command.{Command}
use Rattle.reply_model.specs.declared.Command.TheVariants.{New, Go, At, Same, Level, Dist, Path}
use Rattle.reply_model.specs.declared.Command.TheVariants.{Put, Get, Ring, Count}
use Rattle.reply_model.specs.Histories.{most_walkers}
use Rattle.tile_model.specs.WalkTexts.{walk_text}
use Rattle.command_text.specs.declared.command.TheConstants.{LONGEST_LINE}
use Rattle.command_text.specs.declared.command.Verb.{Verb}
use Rattle.command_text.specs.declared.command.Verb.TheVariants.{New as NewVerb, Go as GoVerb, At as AtVerb, Same as SameVerb, Level as LevelVerb, Dist as DistVerb, Path as PathVerb}
use Rattle.command_text.specs.declared.command.Verb.TheVariants.{Put as PutVerb, Get as GetVerb, Ring as RingVerb, Count as CountVerb}

-- the most bytes of a line
abbrev pub most_of_line : ℕ
most_of_line = LONGEST_LINE

-- the byte of a space
abbrev pub space : ℕ
space = 32

-- words with one space between each two
abbrev pub spaced : List (List ℕ) → List ℕ
spaced words = join_with_byte space words

-- one to nine digits that write the number of a walker
pub record IsWalkerNumber (digits : List ℕ) (w : ℕ) : Type 0 where
  pub number : IsNumber digits w
  pub below : w < most_walkers

-- what a command is told, by its shape
pub data Operands : Type 0 where
  one_walker : (w : ℕ) → Operands
  two_walkers : (w v : ℕ) → Operands
  walker_and_walk : (w : ℕ) (walk : List Letter) → Operands
  walker_and_text : (w : ℕ) (text : List ℕ) → Operands
  one_distance : (d : ℕ) → Operands

-- the words that tell it
pub data AreTold : Operands → List (List ℕ) → Type 0 where
  by_number :
      (w : ℕ) (digits : List ℕ)
      → IsWalkerNumber digits w
      → AreTold (one_walker w) (digits ∷ [])
  by_numbers :
      (w v : ℕ) (first second : List ℕ)
      → IsWalkerNumber first w
      → IsWalkerNumber second v
      → AreTold (two_walkers w v) (first ∷ second ∷ [])
  by_number_and_letters :
      (w : ℕ) (walk : List Letter) (digits : List ℕ)
      → IsWalkerNumber digits w
      → AreTold (walker_and_walk w walk) (digits ∷ walk_text walk ∷ [])
  by_number_and_text :
      (w : ℕ) (text digits : List ℕ)
      → IsWalkerNumber digits w
      → AreTold (walker_and_text w text) (digits ∷ text ∷ [])
  by_distance :
      (d : ℕ) (digits : List ℕ) → IsNumber digits d → AreTold (one_distance d) (digits ∷ [])

-- the first word of the lines of a verb
abbrev pub verb_text : Verb → List ℕ
verb_text NewVerb = codes "new"
verb_text GoVerb = codes "go"
verb_text AtVerb = codes "at"
verb_text SameVerb = codes "same"
verb_text LevelVerb = codes "level"
verb_text DistVerb = codes "dist"
verb_text PathVerb = codes "path"
verb_text PutVerb = codes "put"
verb_text GetVerb = codes "get"
verb_text RingVerb = codes "ring"
verb_text CountVerb = codes "count"

-- the verb of a command
abbrev pub verb_of : Command → Verb
verb_of (New w) = NewVerb
verb_of (Go w walk) = GoVerb
verb_of (At w) = AtVerb
verb_of (Same w v) = SameVerb
verb_of (Level w) = LevelVerb
verb_of (Dist w v) = DistVerb
verb_of (Path w v) = PathVerb
verb_of (Put w text) = PutVerb
verb_of (Get w) = GetVerb
verb_of (Ring d) = RingVerb
verb_of (Count d) = CountVerb

-- the word that the line of a command begins with
abbrev pub word_of : Command → List ℕ
word_of c = verb_text (verb_of c)

-- what the command is told behind it
abbrev pub operands_of : Command → Operands
operands_of (New w) = one_walker w
operands_of (Go w walk) = walker_and_walk w walk
operands_of (At w) = one_walker w
operands_of (Same w v) = two_walkers w v
operands_of (Level w) = one_walker w
operands_of (Dist w v) = two_walkers w v
operands_of (Path w v) = two_walkers w v
operands_of (Put w text) = walker_and_text w text
operands_of (Get w) = one_walker w
operands_of (Ring d) = one_distance d
operands_of (Count d) = one_distance d

-- the line spells the command
pub record IsSpelling (line : List ℕ) (c : Command) : Type 0 where
  pub words : List (List ℕ)
  pub told : AreTold (operands_of c) words
  pub text : line ≡ spaced (word_of c ∷ words)

-- the line spells no command
abbrev pub SpellsNothing : List ℕ → Type 0
SpellsNothing line = (c : Command) → ¬ (IsSpelling line c)
