-- What the lines of commands come to.
use Rattle.std.specs.Prelude.{◌≡◌, ℕ, ◌⊎◌, List}
use Rattle.reply_model.specs.declared.Command.{Command}
use Rattle.command_text.specs.CommandLines.{IsSpelling, SpellsNothing}

-- No line spells two commands.
abbrev pub LinesSpellOne : Type 0
LinesSpellOne =
    (line : List ℕ) (c d : Command) → IsSpelling line c → IsSpelling line d → c ≡ d

-- Each line spells a command or none.
abbrev pub LinesAreDecided : Type 0
LinesAreDecided =
    (line : List ℕ) → ((c : Command) × IsSpelling line c) ⊎ SpellsNothing line
