-- Histories: lists of commands with their replies.
-- Which walkers exist after one, which walk each has gone, and when each reply in it is due.
use Rattle.std.specs.Prelude.{◌≡◌, ℕ, ◌==◌, if◌then◌else◌, List, [], ◌∷◌, ◌++◌, Contains}
use Rattle.tile_model.specs.declared.Letter.{Letter}
use Rattle.reply_model.specs.declared.TheConstants.{WALKERS}
use Rattle.reply_model.specs.declared.Command.{Command}
use Rattle.reply_model.specs.declared.Command.TheVariants.{New, Go}
use Rattle.reply_model.specs.declared.Reply.{Reply}
use Rattle.reply_model.specs.declared.Reply.TheVariants.{Done}

abbrev pub History : Type 0
History = List (Command × Reply)

-- how many walkers there can be: their numbers are those below it
abbrev pub most_walkers : ℕ
most_walkers = WALKERS

-- Walker w exists: it was made.
abbrev pub Exists : History → ℕ → Type 0
Exists history w = Contains history (New w, Done)

-- the letters that a command with this reply adds to the walk of walker w
abbrev pub letters_for : ℕ → Command → Reply → List Letter
letters_for w (Go v walk) Done = if v == w then walk else []
letters_for w _ _ = []

-- the walk of walker w: the letters of its accepted `go` commands, joined in order
abbrev pub walk_of : History → ℕ → List Letter
walk_of [] w = []
walk_of (event ∷ history) w = letters_for w event.0 event.1 ++ walk_of history w

-- Each reply in the history is the one that is due to its command after what stands before it.
abbrev pub AreDue : (History → Command → Reply → Type 0) → History → Type 0
AreDue Due history =
    (before rest : History) (c : Command) (x : Reply)
    → history ≡ before ++ (c, x) ∷ rest
    → Due before c x
