-- The words that a line is cut into.
use Rattle.std.specs.Prelude.{◌≡◌, ◌≢◌, ℕ, List, ◌∷◌, ◌++◌}
use Rattle.std.specs.List.{All}
use Rattle.reply_model.specs.declared.Command.{Command}
use Rattle.command_text.specs.CommandLines.{space, spaced, IsWalkerNumber, Operands, one_walker, two_walkers, walker_and_walk, walker_and_text, one_distance, AreTold, verb_of, operands_of}
use Rattle.command_text.specs.declared.command.Verb.{Verb}

-- the byte is not among the bytes
abbrev pub Lacks : ℕ → List ℕ → Type 0
Lacks byte bytes = All (λ b. b ≢ byte) bytes

-- the bytes are the number of a walker, a space, and the rest
pub record IsInFront (bytes : List ℕ) (w : ℕ) (rest : List ℕ) : Type 0 where
  pub digits : List ℕ
  pub number : IsWalkerNumber digits w
  pub text : bytes ≡ digits ++ space ∷ rest

-- the bytes behind the first word tell this
pub record AreToldBy (bytes : List ℕ) (operands : Operands) : Type 0 where
  pub words : List (List ℕ)
  pub told : AreTold operands words
  pub text : bytes ≡ spaced words

-- the shapes of what commands are told
pub data Shape : Type 0 where
  walker_alone : Shape
  walkers : Shape
  walker_with_walk : Shape
  walker_with_text : Shape
  distance_alone : Shape

abbrev pub shape_of : Operands → Shape
shape_of (one_walker w) = walker_alone
shape_of (two_walkers w v) = walkers
shape_of (walker_and_walk w walk) = walker_with_walk
shape_of (walker_and_text w text) = walker_with_text
shape_of (one_distance d) = distance_alone

-- the bytes tell nothing of this shape
abbrev pub TellNothing : List ℕ → Shape → Type 0
TellNothing bytes shape =
    (operands : Operands) → shape_of operands ≡ shape → ¬ (AreToldBy bytes operands)

-- The bytes behind the first word tell the command, whose verb this is.
pub record IsCommandOf (verb : Verb) (bytes : List ℕ) (c : Command) : Type 0 where
  pub of_verb : verb_of c ≡ verb
  pub told : AreToldBy bytes (operands_of c)

-- the bytes behind the first word tell no command of the verb
abbrev pub IsNoCommandOf : Verb → List ℕ → Type 0
IsNoCommandOf verb bytes = (c : Command) → ¬ (IsCommandOf verb bytes c)
