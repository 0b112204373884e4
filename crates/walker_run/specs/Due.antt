-- The table: which line is due to the words, to what the files hold and to what the teacher
-- answers, and over which rules walkers are served instead, or where a log is written.
-- No fault of the outside and no want of memory comes between.
-- Of a fault of the outside it is said which files may be fetched.
-- Each form of the words has rows of its own.
use Rattle.std.specs.Prelude.{◌≡◌, ◌⊎◌, ℕ, ◌<◌, ◌≤◌, List, length, Option, Some, All}
use Rattle.tile_model.specs.declared.Letter.{Letter}
use Rattle.tile_model.specs.Tessellations.{TileKind}
use Rattle.tile_model.specs.Walks.{type_of}
use Rattle.tile_model.specs.Validity.{IsValid}
use Rattle.tile_model.specs.Relation.{Change, Lead, AreRelated}
use Rattle.tree_model.specs.Automata.{TreeAutomaton}
use Rattle.tess_text.specs.Spelling.{IsSpelling}
use Rattle.merge_model.specs.Merging.{IsMerged}
use Rattle.call_words.specs.Tasks.{Task, TellType, CheckRules, RunSession, LearnRules, MergeRules}
use Rattle.call_words.specs.Tasks.{WriteLog, VerifyLog}
use Rattle.call_words.specs.Tasks.{Ask, HaveNoForm, IsRunForm, IsLogForm}
use Rattle.call_words.specs.Tasks.{RulesFrom, FromFile, FromTeacher, stored_in}
use Rattle.log_model.specs.Logs.{IsFirstRefused, LeadsElsewhere}
use Rattle.log_model.specs.LogTexts.{HasText, log_text}
use Rattle.derivation_log.specs.Passing.{PassesFar}
use Rattle.walker_run.specs.declared.line.Role.{Role}
use Rattle.walker_run.specs.declared.line.Role.TheVariants.{Tess, Rules, Log}
use Rattle.walker_run.specs.declared.line.Line.{Line}
use Rattle.walker_run.specs.declared.line.Line.TheVariants.{TypeTold, Accepted, Usage, FileFault}
use Rattle.walker_run.specs.declared.line.Line.TheVariants.{StoreFault, Related, Apart, TooDeep}
use Rattle.walker_run.specs.declared.line.Line.TheVariants.{LogChange, LogEnd}
use Rattle.walker_run.specs.Runs.{Call}
use Rattle.walker_run.specs.Held.{Loaded, Refused, Holds, IsTess, IsRules, IsLog, IsMade, RulesOf}
use Rattle.walker_run.specs.Held.{tess_limit}
use Rattle.walker_run.specs.Held.{Lesson}

-- what each file holds, by its name
abbrev pub Contents : Type 0
Contents = List ℕ → Option (List ℕ)

-- the rows of the form `kind`
pub data TypeRow (contents : Contents) (tess : List ℕ) (k : ℕ) (walk : List Letter) :
    Line → Type 0 where
  -- the tessellation file is refused
  type_no_tess :
      (line : Line)
      → IsTess contents tess (Refused line)
      → TypeRow contents tess k walk line
  -- the words name no kind of the tessellation
  type_no_kind :
      (kinds : List TileKind)
      → IsTess contents tess (Loaded kinds)
      → length kinds ≤ k
      → TypeRow contents tess k walk Usage
  -- the type that the walk leads to
  type_told :
      (kinds : List TileKind)
      → IsTess contents tess (Loaded kinds)
      → k < length kinds
      → TypeRow contents tess k walk (TypeTold (type_of kinds (k, 0) walk))

-- the rows of the form `check`, whose rules a file holds, and of `learn`, which asks a teacher
pub data CheckRow (contents : Contents) (lesson : Lesson) (tess : List ℕ) (rules : RulesFrom) :
    Line → Type 0 where
  -- the tessellation file is refused
  check_no_tess :
      (line : Line)
      → IsTess contents tess (Refused line)
      → CheckRow contents lesson tess rules line
  -- the rules file is refused, or no rules are made
  check_no_rules :
      (kinds : List TileKind) (line : Line)
      → IsTess contents tess (Loaded kinds)
      → RulesOf contents lesson kinds rules (Refused line)
      → CheckRow contents lesson tess rules line
  -- the rules are accepted
  check_accepted :
      (kinds : List TileKind) (a : TreeAutomaton)
      → IsTess contents tess (Loaded kinds)
      → RulesOf contents lesson kinds rules (Loaded a)
      → CheckRow contents lesson tess rules (Accepted (length a.states) (length a.corners))

-- the rows of the form `run`, where no walkers are served
pub data SessionRow
    (contents : Contents) (lesson : Lesson) (tess : List ℕ) (k : ℕ) (rules : RulesFrom) :
    Line → Type 0 where
  -- the tessellation file is refused
  session_no_tess :
      (line : Line)
      → IsTess contents tess (Refused line)
      → SessionRow contents lesson tess k rules line
  -- the words name no kind of the tessellation
  session_no_kind :
      (kinds : List TileKind)
      → IsTess contents tess (Loaded kinds)
      → length kinds ≤ k
      → SessionRow contents lesson tess k rules Usage
  -- the rules file is refused, or no rules are made
  session_no_rules :
      (kinds : List TileKind) (line : Line)
      → IsTess contents tess (Loaded kinds)
      → k < length kinds
      → RulesOf contents lesson kinds rules (Refused line)
      → SessionRow contents lesson tess k rules line

-- What is left of the rules that a file holds, once their states are merged that no path tells
-- apart.
pub record Merges
    (contents : Contents) (tess rules : List ℕ) (kinds : List TileKind)
    (automaton : TreeAutomaton) : Type 0 where
  pub source : TreeAutomaton
  pub classes : List (Option ℕ)
  pub loaded : IsTess contents tess (Loaded kinds)
  pub read : IsRules contents kinds rules (Loaded source)
  pub merged : IsMerged kinds source classes automaton

-- the rows of the form `merge`
pub data MergeRow (contents : Contents) (tess rules : List ℕ) : Line → Type 0 where
  -- the tessellation file is refused
  merge_no_tess :
      (line : Line)
      → IsTess contents tess (Refused line)
      → MergeRow contents tess rules line
  -- the rules file is refused
  merge_no_rules :
      (kinds : List TileKind) (line : Line)
      → IsTess contents tess (Loaded kinds)
      → IsRules contents kinds rules (Refused line)
      → MergeRow contents tess rules line
  -- the rules are accepted, and these are left of them
  merge_accepted :
      (kinds : List TileKind) (a : TreeAutomaton)
      → Merges contents tess rules kinds a
      → MergeRow contents tess rules (Accepted (length a.states) (length a.corners))

-- The rows of a form that names a kind of the tessellation, which `Next` has where it is there.
pub data KindRow
    (contents : Contents) (tess : List ℕ) (k : ℕ) (Next : List TileKind → Line → Type 0) :
    Line → Type 0 where
  -- the tessellation file is refused
  kind_no_tess :
      (line : Line)
      → IsTess contents tess (Refused line)
      → KindRow contents tess k Next line
  -- the words name no kind of the tessellation
  kind_not_there :
      (kinds : List TileKind)
      → IsTess contents tess (Loaded kinds)
      → length kinds ≤ k
      → KindRow contents tess k Next Usage
  -- they name one
  kind_there :
      (kinds : List TileKind) (line : Line)
      → IsTess contents tess (Loaded kinds)
      → k < length kinds
      → Next kinds line
      → KindRow contents tess k Next line

-- one of the two walks passes a tile that lies more than 4,000 crossings from the first one
abbrev pub PassFar : List TileKind → ℕ → List Letter → List Letter → Type 0
PassFar kinds k u w = PassesFar kinds k u ⊎ PassesFar kinds k w

-- The rows of the form `log`, over a tessellation.
-- Where the walks are related and neither passes too far no line is due: the text of a log is
-- written, of which `IsLogText` says all.
pub data LogRow
    (contents : Contents) (rules : List ℕ) (k : ℕ) (u w : List Letter) (kinds : List TileKind) :
    Line → Type 0 where
  -- the rules file is refused
  log_no_rules :
      (line : Line)
      → IsRules contents kinds rules (Refused line)
      → LogRow contents rules k u w kinds line
  -- one of the walks passes too far, whether they are related or not
  log_too_deep :
      (a : TreeAutomaton)
      → IsRules contents kinds rules (Loaded a)
      → PassFar kinds k u w
      → LogRow contents rules k u w kinds TooDeep
  -- the walks are not related
  log_apart :
      (a : TreeAutomaton)
      → IsRules contents kinds rules (Loaded a)
      → ¬ PassFar kinds k u w
      → ¬ AreRelated kinds (k, 0) u w
      → LogRow contents rules k u w kinds Apart

-- what is said of a log and two walks, from the start of a kind
pub data IsVerdict (kinds : List TileKind) (k : ℕ) (u w : List Letter) (log : List Change) :
    Line → Type 0 where
  -- it leads from walk u to walk w
  log_leads : Lead kinds (k, 0) log u w → IsVerdict kinds k u w log Related
  -- change n is the first that is not allowed
  log_refused :
      (n : ℕ)
      → IsFirstRefused kinds (k, 0) u log n
      → IsVerdict kinds k u w log (LogChange n)
  -- all changes are allowed, and lead to another walk
  log_ends : LeadsElsewhere kinds (k, 0) log u w → IsVerdict kinds k u w log LogEnd

-- the rows of the form `verify`, over a tessellation
pub data VerifyRow
    (contents : Contents) (k : ℕ) (u w : List Letter) (file : List ℕ) (kinds : List TileKind) :
    Line → Type 0 where
  -- the log file is refused
  verify_no_log :
      (line : Line)
      → IsLog contents file (Refused line)
      → VerifyRow contents k u w file kinds line
  -- it holds a log
  verify_log :
      (log : List Change) (line : Line)
      → IsLog contents file (Loaded log)
      → IsVerdict kinds k u w log line
      → VerifyRow contents k u w file kinds line

-- the rows of a task
abbrev pub Row : Contents → Lesson → Task → Line → Type 0
Row contents lesson (TellType tess k walk) = TypeRow contents tess k walk
Row contents lesson (CheckRules tess rules) = CheckRow contents lesson tess (FromFile rules)
Row contents lesson (RunSession tess k rules) = SessionRow contents lesson tess k rules
Row contents lesson (LearnRules tess cells out) = CheckRow contents lesson tess (FromTeacher cells)
Row contents lesson (MergeRules tess rules out) = MergeRow contents tess rules
Row contents lesson (WriteLog tess rules k u w) =
    KindRow contents tess k (LogRow contents rules k u w)
Row contents lesson (VerifyLog tess k u w log) =
    KindRow contents tess k (VerifyRow contents k u w log)

pub data IsDue (call : Call) : Line → Type 0 where
  -- the words are in no form
  no_form : HaveNoForm call.words → IsDue call Usage
  -- the words ask for a task
  by_task :
      (task : Task) (line : Line)
      → Ask call.words task
      → Row call.contents call.lesson task line
      → IsDue call line

-- The words are `run TESS K`, the files hold what they should within their limits, and K is a kind
-- of the tessellation.
-- The automaton is the one that the rules file spells, and meets the twelve conditions; or no rules
-- file is named, and it is the one that is made for a regular tessellation, or that the teacher
-- answers for another one.
-- Then the commands of the input are answered.
pub record Serves (call : Call) (kinds : List TileKind) (automaton : TreeAutomaton) (k : ℕ) :
    Type 0 where
  pub tess : List ℕ
  pub rules : RulesFrom
  pub tess_bytes : List ℕ
  pub form : IsRunForm call.words tess k rules
  pub holds_tess : Holds call.contents tess tess_limit tess_bytes
  pub tess_spelling : IsSpelling tess_bytes kinds
  pub valid : IsValid kinds
  pub loaded : RulesOf call.contents call.lesson kinds rules (Loaded automaton)
  pub is_kind : k < length kinds

-- the call serves walkers, over some rules and a kind
pub record ServesSome (call : Call) : Type 0 where
  pub kinds : List TileKind
  pub automaton : TreeAutomaton
  pub kind : ℕ
  pub serves : Serves call kinds automaton kind

-- The files hold a tessellation with a kind of this number and rules, and no walk passes too far.
pub record IsReady
    (contents : Contents) (tess rules : List ℕ) (k : ℕ) (u w : List Letter)
    (kinds : List TileKind) : Type 0 where
  pub automaton : TreeAutomaton
  pub loaded : IsTess contents tess (Loaded kinds)
  pub is_kind : k < length kinds
  pub read : IsRules contents kinds rules (Loaded automaton)
  pub near : ¬ PassFar kinds k u w

-- The text is that of a log which leads from walk u to walk w.
-- Which of these logs it is is not said.
pub record IsLogText
    (contents : Contents) (tess rules : List ℕ) (k : ℕ) (u w : List Letter) (text : List ℕ) :
    Type 0 where
  pub kinds : List TileKind
  pub log : List Change
  pub ready : IsReady contents tess rules k u w kinds
  pub have_text : All HasText log
  pub leads : Lead kinds (k, 0) log u w
  pub is : text ≡ log_text log

-- a task writes such a text
abbrev pub WritesFor : Contents → Task → List ℕ → Type 0
WritesFor contents (TellType tess k walk) text = ⊥
WritesFor contents (CheckRules tess rules) text = ⊥
WritesFor contents (RunSession tess k rules) text = ⊥
WritesFor contents (LearnRules tess cells out) text = ⊥
WritesFor contents (MergeRules tess rules out) text = ⊥
WritesFor contents (WriteLog tess rules k u w) text = IsLogText contents tess rules k u w text
WritesFor contents (VerifyLog tess k u w log) text = ⊥

-- The words are `log TESS RULES K U W`, the files hold what they should within their limits, K is a
-- kind of the tessellation, neither walk passes too far, and the two are related.
-- Then a log is written.
pub record Logs (call : Call) : Type 0 where
  pub tess : List ℕ
  pub rules : List ℕ
  pub k : ℕ
  pub u : List Letter
  pub w : List Letter
  pub kinds : List TileKind
  pub form : IsLogForm call.words tess rules k u w
  pub ready : IsReady call.contents tess rules k u w kinds
  pub related : AreRelated kinds (k, 0) u w

-- the call writes this text, of a log
pub record LogsText (call : Call) (text : List ℕ) : Type 0 where
  pub tess : List ℕ
  pub rules : List ℕ
  pub k : ℕ
  pub u : List Letter
  pub w : List Letter
  pub form : IsLogForm call.words tess rules k u w
  pub logs : IsLogText call.contents tess rules k u w text

-- Where a task fetches the file of this role: where nothing that is tried before it refuses.
abbrev pub FetchesFor : Contents → Task → Role → Type 0
FetchesFor contents task Tess = Unit {0}
FetchesFor contents (TellType tess k walk) Rules = ⊥
FetchesFor contents (CheckRules tess rules) Rules =
    (kinds : List TileKind) × IsTess contents tess (Loaded kinds)
FetchesFor contents (RunSession tess k (FromFile rules)) Rules =
    (kinds : List TileKind) × IsTess contents tess (Loaded kinds) × (k < length kinds)
FetchesFor contents (RunSession tess k (FromTeacher cells)) Rules = ⊥
FetchesFor contents (LearnRules tess cells out) Rules = ⊥
FetchesFor contents (MergeRules tess rules out) Rules =
    (kinds : List TileKind) × IsTess contents tess (Loaded kinds)
FetchesFor contents (WriteLog tess rules k u w) Rules =
    (kinds : List TileKind) × IsTess contents tess (Loaded kinds) × (k < length kinds)
FetchesFor contents (VerifyLog tess k u w log) Rules = ⊥
FetchesFor contents (VerifyLog tess k u w log) Log =
    (kinds : List TileKind) × IsTess contents tess (Loaded kinds) × (k < length kinds)
FetchesFor contents task Log = ⊥

-- the call asks for a task that fetches the file of this role
pub record Fetches (call : Call) (role : Role) : Type 0 where
  pub task : Task
  pub ask : Ask call.words task
  pub reached : FetchesFor call.contents task role

-- These rules are made for the tessellation that the file holds, with so many cells.
pub record Makes
    (contents : Contents) (lesson : Lesson) (tess : List ℕ) (cells : ℕ)
    (kinds : List TileKind) (automaton : TreeAutomaton) : Type 0 where
  pub loaded : IsTess contents tess (Loaded kinds)
  pub made : IsMade lesson kinds cells (Loaded automaton)

-- these rules are made for a task, over these kinds
abbrev pub MakesFor : Contents → Lesson → Task → List TileKind → TreeAutomaton → Type 0
MakesFor contents lesson (TellType tess k walk) kinds a = ⊥
MakesFor contents lesson (CheckRules tess rules) kinds a = ⊥
MakesFor contents lesson (RunSession tess k rules) kinds a = ⊥
MakesFor contents lesson (LearnRules tess cells out) kinds a =
    Makes contents lesson tess cells kinds a
MakesFor contents lesson (MergeRules tess rules out) kinds a = Merges contents tess rules kinds a
MakesFor contents lesson (WriteLog tess rules k u w) kinds a = ⊥
MakesFor contents lesson (VerifyLog tess k u w log) kinds a = ⊥

-- the task is to make rules
abbrev pub IsToMake : Task → Type 0
IsToMake (TellType tess k walk) = ⊥
IsToMake (CheckRules tess rules) = ⊥
IsToMake (RunSession tess k rules) = ⊥
IsToMake (LearnRules tess cells out) = Unit {0}
IsToMake (MergeRules tess rules out) = Unit {0}
IsToMake (WriteLog tess rules k u w) = ⊥
IsToMake (VerifyLog tess k u w log) = ⊥

-- the task names this file to store rules in
abbrev pub StoresAs : Task → List ℕ → Type 0
StoresAs task file = stored_in task ≡ Some file

-- where a task stores rules: it names a file for them, and they are made
pub record StoresFor (contents : Contents) (lesson : Lesson) (task : Task) : Type 0 where
  pub file : List ℕ
  pub kinds : List TileKind
  pub automaton : TreeAutomaton
  pub named : StoresAs task file
  pub makes : MakesFor contents lesson task kinds automaton

-- the call asks for a task that stores rules
pub record Stores (call : Call) : Type 0 where
  pub task : Task
  pub ask : Ask call.words task
  pub reached : StoresFor call.contents call.lesson task

-- What a call may say: the line that is due, that a file which it fetches could not be read, or
-- that the file which it stores could not be written.
pub data MaySay (call : Call) : Line → Type 0 where
  due : (line : Line) → IsDue call line → MaySay call line
  unread : (role : Role) → Fetches call role → MaySay call (FileFault role)
  unstored : Stores call → MaySay call StoreFault
