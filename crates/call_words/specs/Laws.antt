-- What words ask for.
use Rattle.std.specs.Prelude.{◌≡◌, ℕ, List}
use Rattle.call_words.specs.Tasks.{Task, Ask, IsInRange}

-- Words ask for one task at most.
abbrev pub OneTaskIsAsked : Type 0
OneTaskIsAsked =
    (words : List (List ℕ)) (task other : Task) → Ask words task → Ask words other → task ≡ other

-- No words ask for more cells than may be, or for none.
abbrev pub TasksAreInRange : Type 0
TasksAreInRange = (words : List (List ℕ)) (task : Task) → Ask words task → IsInRange task
