-- What a step of a call comes to, and what it leaves of the outside.
use Rattle.std.specs.Prelude.{◌≡◌, ◌⊎◌, ℕ, ◌<◌, ◌≤◌, Bool, IsTrue, List, length, Option, Some, None}
use Rattle.std.specs.Prelude.{Result, Ok, Err, All}
use Rattle.tile_model.specs.declared.Letter.{Letter}
use Rattle.tile_model.specs.Relation.{Change, Lead, AreRelated}
use Rattle.log_model.specs.LogTexts.{HasText, log_text}
use Rattle.tile_model.specs.Tessellations.{TileKind}
use Rattle.tree_model.specs.Automata.{TreeAutomaton}
use Rattle.tree_model.specs.Conditions.{IsAccepted}
use Rattle.structure_check.specs.Rules.{TreeRules}
use Rattle.rules_file.specs.Spelling.{rules_text}
use Rattle.state_learner.specs.Learning.{HasClosed}
use Rattle.state_learner.specs.GiveUps.{GiveUp}
use Rattle.way_io.specs.Counts.{Rose}
use Rattle.way_io.specs.Contents.{KeepsAll}
use Rattle.call_words.specs.Tasks.{Task, TellType, CheckRules, RunSession, LearnRules, MergeRules}
use Rattle.call_words.specs.Tasks.{WriteLog, VerifyLog, Ask, HaveNoForm}
use Rattle.walker_run.specs.declared.line.Role.{Role}
use Rattle.walker_run.specs.declared.line.Line.{Line}
use Rattle.walker_run.specs.declared.line.Line.TheVariants.{Usage, Accepted, FileFault, StoreFault}
use Rattle.walker_run.specs.declared.line.Line.TheVariants.{Closed, GaveUp, InputTooLong}
use Rattle.walker_run.specs.declared.line.Line.TheVariants.{Apart, TooDeep}
use Rattle.walker_run.specs.declared.stop.Stop.{Stop}
use Rattle.walker_run.specs.declared.stop.Stop.TheVariants.{Say as StopSay, Memory}
use Rattle.walker_run.specs.declared.tasks.Work.{Work}
use Rattle.walker_run.specs.declared.tasks.Work.TheVariants.{Say, Serve, Write}
use Rattle.walker_run.specs.Lines.{MayStore, status_of}
use Rattle.walker_run.specs.Held.{Loaded, Refused, Lesson, IsTess, RulesOf}
use Rattle.walker_run.specs.Due.{Contents, Row, FetchesFor, StoresFor, StoresAs, MakesFor}
use Rattle.walker_run.specs.Due.{WritesFor, PassFar, IsVerdict}
use Rattle.walker_run.specs.Outcome.{HasGivenUpOn, IsClosedFor, IsGivenUpFor}

-- what the files tell at one moment, and what a teacher tells
pub record FilesSeen : Type 0 where
  pub contents : Contents
  pub failed_fetches : ℕ
  pub failed_stores : ℕ

pub record TeacherSeen : Type 0 where
  pub give_ups : ℕ
  pub last_give_up : Option GiveUp

-- the same by the words that the types have for it
abbrev pub files_seen : {F : Type 0} → (F → Contents) → (F → ℕ) → (F → ℕ) → F → FilesSeen
files_seen contents fetches stores files =
    record {
      contents = contents files;
      failed_fetches = fetches files;
      failed_stores = stores files;
    }

abbrev pub teacher_seen : {T : Type 0} → (T → ℕ) → (T → Option GiveUp) → T → TeacherSeen
teacher_seen give_ups last teacher =
    record { give_ups = give_ups teacher; last_give_up = last teacher }

-- the lines to which neither a teacher nor a file that is stored nor the input leads
abbrev pub IsPlain : Line → Type 0
IsPlain (Closed n) = ⊥
IsPlain (GaveUp n) = ⊥
IsPlain StoreFault = ⊥
IsPlain InputTooLong = ⊥
IsPlain _ = Unit {0}

-- the line with which a step stops, where it stops with one
abbrev pub line_of : {A : Type 0} → Result A Stop → Option Line
line_of (Ok x) = None
line_of (Err (StopSay line)) = Some line
line_of (Err Memory) = None

-- A step fetched a file at most: all files are as before, and where it stops since one could not be
-- read, this was counted.
pub record OnlyFetches
    (tells : Bool) (before after : FilesSeen) (line : Option Line) : Type 0 where
  pub same : IsTrue tells → KeepsAll before.contents after.contents
  pub stores : after.failed_stores ≡ before.failed_stores
  pub later : before.failed_fetches ≤ after.failed_fetches
  pub counted :
      (role : Role) → line ≡ Some (FileFault role)
      → Rose before.failed_fetches after.failed_fetches
  pub plain : (said : Line) → line ≡ Some said → IsPlain said

-- The file holds a tessellation which has no kind of this number, and the line says so.
pub record IsNoKind (contents : Contents) (tess : List ℕ) (k : ℕ) (line : Line) : Type 0 where
  pub kinds : List TileKind
  pub loaded : IsTess contents tess (Loaded kinds)
  pub few : length kinds ≤ k
  pub usage : line ≡ Usage

-- What is known of a teacher that refused to make rules by this line.
pub record IsRefusedBy
    (kinds : List TileKind) (cells : ℕ) (before after : TeacherSeen) (line : Line) : Type 0 where
  pub closed : (n : ℕ) → line ≡ Closed n → HasClosed kinds n
  pub gave_up :
      (n : ℕ) → line ≡ GaveUp n
      → (n ≡ cells)
      × HasGivenUpOn kinds cells before.give_ups after.give_ups after.last_give_up

-- what a teacher that was asked for rules answered, where there was memory for it
abbrev pub lesson_of : Result TreeRules Stop → Lesson
lesson_of (Ok rules) = Some (Loaded rules.automaton)
lesson_of (Err (StopSay line)) = Some (Refused line)
lesson_of (Err Memory) = None

-- What the words come to: a line, walkers that are served over these rules and in the tree of this
-- kind, a text that the table does not determine, or want of memory.
pub data End : Type 0 where
  Says : Line → End
  Opens : List TileKind → TreeAutomaton → ℕ → End
  Prints : List ℕ → End
  Lacks : End

abbrev pub end_of : Result Work Stop → End
end_of (Ok (Say line)) = Says line
end_of (Ok (Serve rules k)) = Opens rules.kinds rules.automaton k
end_of (Ok (Write text)) = Prints text.items
end_of (Err (StopSay line)) = Says line
end_of (Err Memory) = Lacks

-- walkers are served for a task, over these rules and in the tree of this kind
abbrev pub ServesFor : Contents → Lesson → Task → List TileKind → TreeAutomaton → ℕ → Type 0
ServesFor contents lesson (TellType tess k walk) kinds a kind = ⊥
ServesFor contents lesson (CheckRules tess rules) kinds a kind = ⊥
ServesFor contents lesson (LearnRules tess cells out) kinds a kind = ⊥
ServesFor contents lesson (MergeRules tess rules out) kinds a kind = ⊥
ServesFor contents lesson (WriteLog tess rules k u w) kinds a kind = ⊥
ServesFor contents lesson (VerifyLog tess k u w log) kinds a kind = ⊥
ServesFor contents lesson (RunSession tess k rules) kinds a kind =
    IsTess contents tess (Loaded kinds)
    × RulesOf contents lesson kinds rules (Loaded a)
    × (k < length kinds)
    × (k ≡ kind)

-- what a task comes to fits its rows
pub data FitsTask (contents : Contents) (lesson : Lesson) (task : Task) : End → Type 0 where
  fits_row :
      (line : Line) → Row contents lesson task line → FitsTask contents lesson task (Says line)
  fits_unread :
      (role : Role) → FetchesFor contents task role
      → FitsTask contents lesson task (Says (FileFault role))
  fits_unstored :
      StoresFor contents lesson task → FitsTask contents lesson task (Says StoreFault)
  fits_session :
      (kinds : List TileKind) (a : TreeAutomaton) (k : ℕ)
      → ServesFor contents lesson task kinds a k
      → FitsTask contents lesson task (Opens kinds a k)
  fits_text :
      (text : List ℕ) → WritesFor contents task text → FitsTask contents lesson task (Prints text)
  fits_nothing : FitsTask contents lesson task Lacks

-- a file may have been stored where this is the end
abbrev pub MayStoreAt : End → Type 0
MayStoreAt (Says line) = MayStore (status_of line)
MayStoreAt (Opens kinds a k) = ⊥
MayStoreAt (Prints text) = ⊥
MayStoreAt Lacks = Unit {0}

-- the task is to answer the commands of the input
abbrev pub IsSession : Task → Type 0
IsSession (TellType tess k walk) = ⊥
IsSession (CheckRules tess rules) = ⊥
IsSession (RunSession tess k rules) = Unit {0}
IsSession (LearnRules tess cells out) = ⊥
IsSession (MergeRules tess rules out) = ⊥
IsSession (WriteLog tess rules k u w) = ⊥
IsSession (VerifyLog tess k u w log) = ⊥

-- the task is to write a log
abbrev pub IsToLog : Task → Type 0
IsToLog (TellType tess k walk) = ⊥
IsToLog (CheckRules tess rules) = ⊥
IsToLog (RunSession tess k rules) = ⊥
IsToLog (LearnRules tess cells out) = ⊥
IsToLog (MergeRules tess rules out) = ⊥
IsToLog (WriteLog tess rules k u w) = Unit {0}
IsToLog (VerifyLog tess k u w log) = ⊥

-- A task was carried out, and came to this end.
pub record IsCarriedOut
    (tells : Bool) (before after : FilesSeen) (asked answered : TeacherSeen) (task : Task)
    (end : End) : Type 0 where
  -- what the teacher answered, where one was asked and there was memory for the answer
  pub lesson : Lesson
  pub due : IsTrue tells → FitsTask before.contents lesson task end
  -- Of a fault of the files their counts tell.
  pub fetches :
      (role : Role) → end ≡ Says (FileFault role)
      → Rose before.failed_fetches after.failed_fetches
  pub unstored : end ≡ Says StoreFault → Rose before.failed_stores after.failed_stores
  pub short : end ≡ Says InputTooLong → ⊥
  pub stores :
      ((file : List ℕ) → StoresAs task file → ⊥) → after.failed_stores ≡ before.failed_stores
  -- No file changes but the one that is stored, and that one only where rules are made.
  pub others :
      IsTrue tells → (file : List ℕ) → (StoresAs task file → ⊥)
      → after.contents file ≡ before.contents file
  pub kept :
      IsTrue tells
      → KeepsAll before.contents after.contents
      ⊎ (StoresFor before.contents lesson task × MayStoreAt end)
  pub stored :
      IsTrue tells → (file : List ℕ) (kinds : List TileKind) (a : TreeAutomaton)
      → StoresAs task file
      → MakesFor before.contents lesson task kinds a
      → end ≡ Says (Accepted (length a.states) (length a.corners))
      → after.contents file ≡ Some (rules_text a)
  -- What a refusal of the teacher means.
  pub closed :
      (n : ℕ) → end ≡ Says (Closed n) → IsClosedFor tells before.contents task n
  pub gave_up :
      (n : ℕ) → end ≡ Says (GaveUp n)
      → IsGivenUpFor tells before.contents task n asked.give_ups answered.give_ups
      answered.last_give_up
  -- Walkers are served for the form `run` alone, and over rules that meet the twelve conditions.
  pub ready :
      (kinds : List TileKind) (a : TreeAutomaton) (k : ℕ) → end ≡ Opens kinds a k
      → IsSession task × (k < length kinds) × IsAccepted kinds a
  -- A text is written for the form `log` alone.
  pub logs : (text : List ℕ) → end ≡ Prints text → IsToLog task

-- Rules were kept: stored where a file is named for them, and told.
pub record KeepsRules
    (tells : Bool) (before after : FilesSeen) (out : Option (List ℕ)) (a : TreeAutomaton)
    (end : End) : Type 0 where
  pub told :
      (line : Line) → end ≡ Says line
      → (line ≡ Accepted (length a.states) (length a.corners))
      ⊎ (((file : List ℕ) × (out ≡ Some file))
      × (line ≡ StoreFault)
      × Rose before.failed_stores after.failed_stores)
  pub unopened :
      (kinds : List TileKind) (b : TreeAutomaton) (k : ℕ) → end ≡ Opens kinds b k → ⊥
  pub unprinted : (text : List ℕ) → end ≡ Prints text → ⊥
  pub fetches : after.failed_fetches ≡ before.failed_fetches
  pub stores :
      ((file : List ℕ) → out ≡ Some file → ⊥) → after.failed_stores ≡ before.failed_stores
  pub others :
      IsTrue tells → (file : List ℕ) → (out ≡ Some file → ⊥)
      → after.contents file ≡ before.contents file
  pub stored :
      IsTrue tells → (file : List ℕ) → out ≡ Some file
      → end ≡ Says (Accepted (length a.states) (length a.corners))
      → after.contents file ≡ Some (rules_text a)

-- What the making of a log for two walks comes to.
pub data IsLogged (kinds : List TileKind) (k : ℕ) (u w : List Letter) : End → Type 0 where
  logged :
      (log : List Change)
      → ¬ PassFar kinds k u w
      → All HasText log
      → Lead kinds (k, 0) log u w
      → IsLogged kinds k u w (Prints (log_text log))
  logged_apart :
      ¬ PassFar kinds k u w
      → ¬ AreRelated kinds (k, 0) u w
      → IsLogged kinds k u w (Says Apart)
  logged_deep : PassFar kinds k u w → IsLogged kinds k u w (Says TooDeep)
  logged_nothing : IsLogged kinds k u w Lacks

-- What the verifying of a log for two walks comes to.
pub data IsVerified
    (kinds : List TileKind) (k : ℕ) (u w : List Letter) (log : List Change) : End → Type 0 where
  verified :
      (line : Line) → IsVerdict kinds k u w log line → IsVerified kinds k u w log (Says line)
  verified_nothing : IsVerified kinds k u w log Lacks

-- What the words of a call came to.
pub data IsDecided
    (tells : Bool) (words : List (List ℕ)) (before after : FilesSeen)
    (asked answered : TeacherSeen) : End → Type 0 where
  -- they are in no form
  formless :
      HaveNoForm words → after ≡ before
      → IsDecided tells words before after asked answered (Says Usage)
  -- there was no memory for what they say
  wordless : after ≡ before → IsDecided tells words before after asked answered Lacks
  -- they ask for a task
  carried_out :
      (task : Task) (end : End)
      → Ask words task
      → IsCarriedOut tells before after asked answered task end
      → IsDecided tells words before after asked answered end
