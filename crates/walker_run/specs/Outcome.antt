-- How the status and what was appended answer to the table.
use Rattle.std.specs.Prelude.{◌≡◌, ◌⊎◌, ℕ, Bool, IsTrue, List, ◌++◌, Option, Some}
use Rattle.way_io.specs.Counts.{Rose}
use Rattle.way_io.specs.Pieces.{AppendsPrefix}
use Rattle.tile_model.specs.Tessellations.{TileKind}
use Rattle.region_grower.specs.Regions.{RegionState}
use Rattle.state_learner.specs.Learning.{HasClosed, HasGivenUp}
use Rattle.state_learner.specs.GiveUps.{GiveUp}
use Rattle.tile_model.specs.Validity.{IsValid}
use Rattle.tree_model.specs.Automata.{TreeAutomaton}
use Rattle.tree_model.specs.Conditions.{IsAccepted}
use Rattle.tess_text.specs.Spelling.{IsSpelling}
use Rattle.rules_file.specs.Spelling.{IsRulesFile}
use Rattle.call_words.specs.Tasks.{Task, TeachesFor, IsMergeForm}
use Rattle.walker_run.specs.declared.status.Status.{Status}
use Rattle.walker_run.specs.declared.status.Status.TheVariants.{Memory, WriteFault}
use Rattle.walker_run.specs.declared.line.Line.{Line}
use Rattle.walker_run.specs.Lines.{IsOutside, status_of, text_of}
use Rattle.walker_run.specs.Runs.{Call, Run, call_of}
use Rattle.walker_run.specs.Held.{Lesson, Loaded, IsTess, Holds, tess_limit, rules_limit}
use Rattle.walker_run.specs.Due.{Contents, IsDue}

-- what a run wrote, where its sink tells: exactly this, a beginning of it, or nothing
abbrev pub Writes : Run → List ℕ → Type 0
Writes run line = IsTrue run.sink_tells → run.after.taken ≡ run.before.taken ++ line

abbrev pub WritesBeginning : Run → List ℕ → Type 0
WritesBeginning run line =
    IsTrue run.sink_tells → AppendsPrefix run.before.taken run.after.taken line

abbrev pub WritesNothing : Run → Type 0
WritesNothing run = IsTrue run.sink_tells → run.after.taken ≡ run.before.taken

-- the status with this line, unless the outside or memory fails
abbrev pub Gives : Run → Status → List ℕ → Type 0
Gives run status line = ((run.status ≡ status) × Writes run line) ⊎ IsOutside run.status

-- The status with this line, unless it could not be written or there was no memory for it.
-- No file was fetched before it.
abbrev pub GivesAtOnce : Run → Status → List ℕ → Type 0
GivesAtOnce run status line =
    ((run.status ≡ status) × Writes run line)
    ⊎ ((run.status ≡ Memory) ⊎ (run.status ≡ WriteFault))

-- The status comes only where a line with this status is due, if the teacher answers this, and then
-- exactly that line was written.
-- Where such a line is due it comes, unless the outside or memory fails.
pub record ComesExactly (run : Run) (lesson : Lesson) (status : Status) : Type 0 where
  pub only :
      run.status ≡ status
      → (line : Line) × IsDue (call_of run lesson) line × (status_of line ≡ status)
      × Writes run (text_of line)
  pub always :
      (line : Line)
      → IsDue (call_of run lesson) line
      → status_of line ≡ status
      → Gives run status (text_of line)

-- The words are `merge TESS RULES OUT`, both files hold what they should within their limits, and
-- the automaton meets the twelve conditions.
pub record MergesFiles (call : Call) : Type 0 where
  pub tess : List ℕ
  pub rules : List ℕ
  pub out : List ℕ
  pub tess_bytes : List ℕ
  pub rules_bytes : List ℕ
  pub kinds : List TileKind
  pub automaton : TreeAutomaton
  pub form : IsMergeForm call.words tess rules out
  pub holds_tess : Holds call.contents tess tess_limit tess_bytes
  pub holds_rules : Holds call.contents rules rules_limit rules_bytes
  pub tess_spelling : IsSpelling tess_bytes kinds
  pub valid : IsValid kinds
  pub rules_spelling : IsRulesFile rules_bytes automaton
  pub accepted : IsAccepted kinds automaton

-- The teacher gave up on this tessellation with so many cells: it counted a give-up in this call,
-- the last one is of this tessellation and so many cells, and these regions show what that means.
-- `before` and `after` count its give-ups, `last` is its last one afterwards.
pub record HasGivenUpOn
    (kinds : List TileKind) (cells before after : ℕ) (last : Option GiveUp) : Type 0 where
  pub regions : List RegionState
  pub meaning : HasGivenUp kinds cells regions
  pub counted : Rose before after
  pub latest : last ≡ Some (record { kinds = kinds; budget = cells })

-- The task asks a teacher for the rules of this tessellation, with so many cells.
-- Where the files tell, the file that it names holds the tessellation.
pub record AsksOf
    (tells : Bool) (contents : Contents) (task : Task) (kinds : List TileKind) (cells : ℕ) :
    Type 0 where
  pub tess : List ℕ
  pub teaches : TeachesFor task tess cells
  pub loaded : IsTrue tells → IsTess contents tess (Loaded kinds)

-- from a tile of some kind of what the task asks for walks lead to exactly n tiles
pub record IsClosedFor (tells : Bool) (contents : Contents) (task : Task) (n : ℕ) : Type 0 where
  pub kinds : List TileKind
  pub cells : ℕ
  pub asks : AsksOf tells contents task kinds cells
  pub closed : HasClosed kinds n

-- the teacher gave up on what the task asks for
pub record IsGivenUpFor
    (tells : Bool) (contents : Contents) (task : Task) (cells before after : ℕ)
    (last : Option GiveUp) : Type 0 where
  pub kinds : List TileKind
  pub asks : AsksOf tells contents task kinds cells
  pub given_up : HasGivenUpOn kinds cells before after last
