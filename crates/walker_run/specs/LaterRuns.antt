-- What one run writes, and a later one reads.
use Rattle.std.specs.Prelude.{◌≡◌, ℕ, IsTrue, List, ◌++◌}
use Rattle.tile_model.specs.declared.Letter.{Letter}
use Rattle.call_words.specs.Tasks.{IsLogForm, IsVerifyForm}
use Rattle.walker_run.specs.declared.status.Status.TheVariants.{Done}
use Rattle.walker_run.specs.declared.line.Line.TheVariants.{Related}
use Rattle.walker_run.specs.Runs.{Run}
use Rattle.walker_run.specs.Lines.{text_of}
use Rattle.walker_run.specs.Held.{Holds, log_limit}
use Rattle.walker_run.specs.Outcome.{Gives}
use Rattle.walker_run.specs.Promise.{KeepsPromise}

-- One run wrote a log, with the status Done, and a later run is asked to verify it for the same
-- walks, over the same tessellation.
-- Its log file holds what the first run appended, within its limit.
-- The files of both tell, and so does the sink of the first.
pub record VerifiesLog (run later : Run) : Type 0 where
  pub tess : List ℕ
  pub rules : List ℕ
  pub k : ℕ
  pub u : List Letter
  pub w : List Letter
  pub text : List ℕ
  pub tess_again : List ℕ
  pub file : List ℕ
  pub files_told : IsTrue run.files_tell
  pub sink_told : IsTrue run.sink_tells
  pub later_told : IsTrue later.files_tell
  pub form : IsLogForm run.words tess rules k u w
  pub done : run.status ≡ Done
  pub appended : run.after.taken ≡ run.before.taken ++ text
  pub later_form : IsVerifyForm later.words tess_again k u w file
  pub same_tess : later.before.contents tess_again ≡ run.before.contents tess
  pub holds : Holds later.before.contents file log_limit text

-- Then the later run says that the walks are related, unless the outside or memory fails.
abbrev pub LogsAreVerified : Type 0
LogsAreVerified =
    (run later : Run) → KeepsPromise run → KeepsPromise later → VerifiesLog run later
    → Gives later Done (text_of Related)
