-- What a run of the program comes to, in one place.
use Rattle.std.specs.Prelude.{◌≡◌, ◌⊎◌, ℕ, ◌<◌, ◌≤◌, IsTrue, List, [], length, Some}
use Rattle.tile_model.specs.Tessellations.{TileKind}
use Rattle.tree_model.specs.Automata.{TreeAutomaton}
use Rattle.rules_file.specs.Spelling.{rules_text}
use Rattle.line_server.specs.Answering.{over_walks, over_tree}
use Rattle.line_server.specs.Lines.{most_of_stream}
use Rattle.line_server.specs.Endings.{GivesInOrder, TakesMore, IsBegun}
use Rattle.way_io.specs.Counts.{Rose}
use Rattle.way_io.specs.Contents.{KeepsAll}
use Rattle.call_words.specs.Tasks.{Task, Ask, HaveNoForm, AreNotOfRun, AreNotOfLog, IsOut}
use Rattle.walker_run.specs.declared.status.Status.{Status}
use Rattle.walker_run.specs.declared.status.Status.TheVariants.{Done, Usage, FileFault, FileTooLong}
use Rattle.walker_run.specs.declared.status.Status.TheVariants.{TessRefused, RulesText, NotAccepted}
use Rattle.walker_run.specs.declared.status.Status.TheVariants.{Memory, ReadFault, WriteFault}
use Rattle.walker_run.specs.declared.status.Status.TheVariants.{InputTooLong, Spherical, StoreFault}
use Rattle.walker_run.specs.declared.status.Status.TheVariants.{Closed, GaveUp}
use Rattle.walker_run.specs.declared.status.Status.TheVariants.{Apart, LogRefused, TooDeep}
use Rattle.walker_run.specs.declared.line.Role.{Role}
use Rattle.walker_run.specs.declared.line.Line.{Line}
use Rattle.walker_run.specs.declared.line.Line.TheVariants.{Accepted, Usage as UsageLine}
use Rattle.walker_run.specs.declared.line.Line.TheVariants.{FileFault as FileFaultLine}
use Rattle.walker_run.specs.declared.line.Line.TheVariants.{StoreFault as StoreFaultLine}
use Rattle.walker_run.specs.declared.line.Line.TheVariants.{Closed as ClosedLine}
use Rattle.walker_run.specs.declared.line.Line.TheVariants.{GaveUp as GaveUpLine}
use Rattle.walker_run.specs.declared.line.Line.TheVariants.{InputTooLong as InputTooLongLine}
use Rattle.walker_run.specs.Held.{Lesson}
use Rattle.walker_run.specs.Runs.{Run, call_of}
use Rattle.walker_run.specs.Lines.{IsOutside, MayStore, text_of}
use Rattle.walker_run.specs.Due.{IsDue, Serves, ServesSome, Fetches, Stores, MaySay}
use Rattle.walker_run.specs.Due.{IsToMake, MakesFor, StoresAs, Logs, LogsText}
use Rattle.walker_run.specs.Outcome.{Writes, WritesBeginning, WritesNothing, GivesAtOnce}
use Rattle.walker_run.specs.Outcome.{ComesExactly, MergesFiles, IsClosedFor, IsGivenUpFor}
use Rattle.walker_run.specs.Serving.{OutputStands, LinesStand, RefusalStands, BeginningStands}

-- the statuses that tell of the outside or of memory, where the input is read
abbrev pub IsOutsideOfStream : Status → Type 0
IsOutsideOfStream status = IsOutside status ⊎ (status ≡ ReadFault)

-- The words ask a teacher for the rules of a tessellation that is not regular, and from a tile of
-- some kind walks lead to exactly n tiles.
pub record IsClosedIn (run : Run) (n : ℕ) : Type 0 where
  pub task : Task
  pub ask : Ask run.words task
  pub closed : IsClosedFor run.files_tell run.before.contents task n

-- The words ask a teacher for the rules of a tessellation that is not regular, with so many cells,
-- and in this run it counted that it gave up on this tessellation with so many cells.
pub record IsGivenUpIn (run : Run) (cells : ℕ) : Type 0 where
  pub task : Task
  pub ask : Ask run.words task
  pub given_up :
      IsGivenUpFor run.files_tell run.before.contents task cells run.before.give_ups
      run.after.give_ups run.after.last_give_up

-- The beginning was written of a line that the run may say.
-- That a file could not be read is begun only where a fetch failed, that one could not be written
-- only where a store failed, and that the teacher gave up only where it counted it; that the input
-- is too long nowhere here, since it is said of a stream.
pub record BeginsLine (run : Run) (lesson : Lesson) (line : Line) : Type 0 where
  pub may : IsTrue run.files_tell → MaySay (call_of run lesson) line
  pub counted :
      (role : Role) → line ≡ FileFaultLine role
      → Rose run.before.failed_fetches run.after.failed_fetches
  pub store_counted :
      line ≡ StoreFaultLine → Rose run.before.failed_stores run.after.failed_stores
  pub closed : (n : ℕ) → line ≡ ClosedLine n → IsClosedIn run n
  pub gave_up : (n : ℕ) → line ≡ GaveUpLine n → IsGivenUpIn run n
  pub short : line ≡ InputTooLongLine → ⊥
  pub written : WritesBeginning run (text_of line)

-- The beginning was written of the text of a log. The words are of the form `log`, and where the
-- files tell the log leads from U to W.
pub record BeginsLog (run : Run) (lesson : Lesson) : Type 0 where
  pub text : List ℕ
  pub asked : ¬ AreNotOfLog run.words
  pub logs : IsTrue run.files_tell → LogsText (call_of run lesson) text
  pub written : WritesBeginning run text

-- Exactly the text of a log was written that leads from U to W.
pub record TellsLog (run : Run) (lesson : Lesson) : Type 0 where
  pub text : List ℕ
  pub logs : LogsText (call_of run lesson) text
  pub written : Writes run text

-- What becomes of the commands of the input, in a run that serves walkers over this automaton, in
-- the tree of this kind.
-- Its source tells.
pub record AnswersStream
    (run : Run) (lesson : Lesson) (kinds : List TileKind) (a : TreeAutomaton) (k : ℕ) :
    Type 0 where
  -- The promise: Done, unless the outside or memory fails, whatever the sink tells.
  pub answered :
      length run.before.left ≤ most_of_stream → (run.status ≡ Done) ⊎ IsOutsideOfStream run.status
  -- InputTooLong comes where the input is over its limit, unless the outside or memory fails.
  pub refused :
      most_of_stream < length run.before.left
      → (run.status ≡ InputTooLong) ⊎ IsOutsideOfStream run.status
  pub over_limit : run.status ≡ InputTooLong → most_of_stream < length run.before.left
  -- What stands written at each status: at Done exactly the output of the whole input,
  pub at_done :
      IsTrue run.sink_tells → run.status ≡ Done
      → OutputStands (over_walks kinds a k)
      run.before.left run.after.left run.before.taken run.after.taken
  -- also where it is the tree of the rules that tells which replies are due,
  pub at_done_over_tree :
      IsTrue run.sink_tells → run.status ≡ Done
      → OutputStands (over_tree kinds a k)
      run.before.left run.after.left run.before.taken run.after.taken
  -- the output of the whole lines that were read,
  pub at_read_fault :
      IsTrue run.sink_tells → run.status ≡ ReadFault
      → LinesStand (over_walks kinds a k)
      run.before.left run.after.left run.before.taken run.after.taken
  -- the output of the lines within the limit and the line of the status,
  pub at_input_too_long :
      IsTrue run.sink_tells → run.status ≡ InputTooLong
      → RefusalStands (over_walks kinds a k) run.before.left run.before.taken run.after.taken
  -- the beginning of what would otherwise stand,
  pub at_write_fault :
      IsTrue run.sink_tells → run.status ≡ WriteFault
      → BeginningStands (over_walks kinds a k) run.before.left run.before.taken run.after.taken
      ⊎ ((role : Role) × BeginsLine run lesson (FileFaultLine role))
  -- and the beginning of the output.
  pub at_memory :
      IsTrue run.sink_tells → run.status ≡ Memory
      → IsBegun (over_walks kinds a k) [] run.before.left run.before.taken run.after.taken

-- The words ask for walkers to be served, and where the files tell they hold what is needed for it.
pub record IsServing (run : Run) (lesson : Lesson) : Type 0 where
  pub asked : ¬ AreNotOfRun run.words
  pub serves : IsTrue run.files_tell → ServesSome (call_of run lesson)

-- A file that the call fetches could not be read, which was counted, and the line tells which.
pub record TellsFileFault (run : Run) (lesson : Lesson) : Type 0 where
  pub role : Role
  pub fetches : IsTrue run.files_tell → Fetches (call_of run lesson) role
  pub counted : Rose run.before.failed_fetches run.after.failed_fetches
  pub written : Writes run (text_of (FileFaultLine role))

-- The file that the call stores could not be written, which was counted, and the line tells it.
pub record TellsStoreFault (run : Run) (lesson : Lesson) : Type 0 where
  pub stores : IsTrue run.files_tell → Stores (call_of run lesson)
  pub counted : Rose run.before.failed_stores run.after.failed_stores
  pub written : Writes run (text_of StoreFaultLine)

-- A read failed, which was counted, while walkers were served.
pub record TellsReadFault (run : Run) (lesson : Lesson) : Type 0 where
  pub serving : IsServing run lesson
  pub counted : Rose run.before.failed_reads run.after.failed_reads

-- A write failed, which was counted: of a line, while walkers were served, or of a log.
pub record TellsWriteFault (run : Run) (lesson : Lesson) : Type 0 where
  pub begun :
      ((line : Line) × BeginsLine run lesson line)
      ⊎ (IsServing run lesson ⊎ BeginsLog run lesson)
  pub counted : Rose run.before.failed_writes run.after.failed_writes

-- One automaton is made for the task: the regular one or what the teacher answered, or what is left
-- of the rules of a file.
-- The line tells how many states and corner types it has, and where the words name a file to store
-- rules in, that file holds exactly its canonical text.
pub record TellsMade (run : Run) (lesson : Lesson) (task : Task) : Type 0 where
  pub kinds : List TileKind
  pub automaton : TreeAutomaton
  pub makes : MakesFor run.before.contents lesson task kinds automaton
  pub written : Writes run (text_of (Accepted (length automaton.states) (length automaton.corners)))
  pub stored :
      (file : List ℕ) → StoresAs task file
      → run.after.contents file ≡ Some (rules_text automaton)

-- The line tells how many tiles there are.
pub record TellsClosed (run : Run) : Type 0 where
  pub n : ℕ
  pub closed : IsClosedIn run n
  pub written : Writes run (text_of (ClosedLine n))

-- The line tells with how many cells the teacher gave up.
pub record TellsGiveUp (run : Run) : Type 0 where
  pub cells : ℕ
  pub gave_up : IsGivenUpIn run cells
  pub written : Writes run (text_of (GaveUpLine cells))

-- The table is followed: where each status comes, and with which line.
pub record FollowsTable (run : Run) (lesson : Lesson) : Type 0 where
  -- The statuses of lines that are due. Done comes so unless the run serves walkers or writes a log.
  pub done :
      IsTrue run.files_tell
      → ServesSome (call_of run lesson)
      ⊎ (Logs (call_of run lesson) ⊎ ComesExactly run lesson Done)
  pub usage : IsTrue run.files_tell → ComesExactly run lesson Usage
  pub file_too_long : IsTrue run.files_tell → ComesExactly run lesson FileTooLong
  pub tess_refused : IsTrue run.files_tell → ComesExactly run lesson TessRefused
  pub rules_text : IsTrue run.files_tell → ComesExactly run lesson RulesText
  pub not_accepted : IsTrue run.files_tell → ComesExactly run lesson NotAccepted
  pub spherical : IsTrue run.files_tell → ComesExactly run lesson Spherical
  pub apart : IsTrue run.files_tell → ComesExactly run lesson Apart
  pub log_refused : IsTrue run.files_tell → ComesExactly run lesson LogRefused
  pub too_deep : IsTrue run.files_tell → ComesExactly run lesson TooDeep
  -- Rules that can be merged are merged, unless the outside or memory fails; `made` says how.
  pub merges :
      IsTrue run.files_tell → MergesFiles (call_of run lesson)
      → (run.status ≡ Done) ⊎ IsOutside run.status
  -- Where walks are related and neither passes too far, a log is written, unless the outside or
  -- memory fails; `logged` says how.
  pub logs :
      IsTrue run.files_tell → Logs (call_of run lesson)
      → (run.status ≡ Done) ⊎ IsOutside run.status
  -- Done of the form `log`.
  pub logged :
      IsTrue run.files_tell → ¬ AreNotOfLog run.words → run.status ≡ Done → TellsLog run lesson
  -- Done of the forms that make rules.
  pub made :
      IsTrue run.files_tell → (task : Task) → Ask run.words task → IsToMake task
      → run.status ≡ Done → TellsMade run lesson task
  -- The statuses with which a teacher refuses.
  pub closed : run.status ≡ Closed → TellsClosed run
  pub gave_up : run.status ≡ GaveUp → TellsGiveUp run
  -- The statuses that only may come.
  pub file_fault : run.status ≡ FileFault → TellsFileFault run lesson
  pub store_fault : run.status ≡ StoreFault → TellsStoreFault run lesson
  pub read_fault : run.status ≡ ReadFault → TellsReadFault run lesson
  pub write_fault : run.status ≡ WriteFault → TellsWriteFault run lesson
  pub input_too_long : run.status ≡ InputTooLong → IsServing run lesson
  pub memory : run.status ≡ Memory → WritesNothing run ⊎ IsServing run lesson

-- The beginning was written of a line which tells that a file could not be read or written.
pub record BeginsFault (run : Run) (lesson : Lesson) : Type 0 where
  pub line : Line
  pub fault : ((role : Role) × (line ≡ FileFaultLine role)) ⊎ (line ≡ StoreFaultLine)
  pub begins : BeginsLine run lesson line

-- The file `out` holds exactly the canonical text of the automaton: at Done, and where the line
-- could not be written, unless that line tells of a fault.
pub record StoresRules
    (run : Run) (lesson : Lesson) (out : List ℕ) (automaton : TreeAutomaton) : Type 0 where
  pub at_done : run.status ≡ Done → run.after.contents out ≡ Some (rules_text automaton)
  pub at_write_fault :
      run.status ≡ WriteFault
      → (run.after.contents out ≡ Some (rules_text automaton)) ⊎ BeginsFault run lesson

-- what stays as it was, at each status, and what the one file holds that may be stored
pub record KeepsOutside (run : Run) (lesson : Lesson) : Type 0 where
  -- Every file keeps its content but the one that the words name to store rules in.
  pub others :
      IsTrue run.files_tell → (file : List ℕ)
      → (IsOut run.words file → ⊥) → run.after.contents file ≡ run.before.contents file
  -- That one too, unless the status is Done, WriteFault, StoreFault or Memory.
  pub contents :
      IsTrue run.files_tell → (MayStore run.status → ⊥)
      → KeepsAll run.before.contents run.after.contents
  -- That one too where the table has no rules for the call. Where it has, that the file is left
  -- alone until they are made is seen in the code.
  pub unmade :
      IsTrue run.files_tell → (Stores (call_of run lesson) → ⊥)
      → KeepsAll run.before.contents run.after.contents
  -- The rules that are made were stored before their line was written.
  pub stored :
      IsTrue run.files_tell
      → (task : Task) (out : List ℕ) (kinds : List TileKind) (automaton : TreeAutomaton)
      → Ask run.words task → StoresAs task out
      → MakesFor run.before.contents lesson task kinds automaton
      → StoresRules run lesson out automaton
  -- No store fails where no file is named to store rules in.
  pub stores :
      ((file : List ℕ) → IsOut run.words file → ⊥)
      → run.after.failed_stores ≡ run.before.failed_stores
  pub taken : IsTrue run.sink_tells → TakesMore run.before.taken run.after.taken
  pub left : IsTrue run.source_tells → GivesInOrder run.before.left run.after.left
  -- The input is left alone where a line is due.
  pub unread :
      IsTrue run.files_tell → (line : Line)
      → IsDue (call_of run lesson) line → run.after.left ≡ run.before.left

-- What is promised of each run.
pub record KeepsPromise (run : Run) : Type 0 where
  -- An answer that a teacher may give. All that follows speaks of this one answer, which is the
  -- only thing that the words and the files do not decide, and that only for tessellations which
  -- are not regular. That it is the one which the teacher of this run gave is seen in the code
  -- alone.
  pub lesson : Lesson
  -- With rules from a file this holds of each automaton that the file spells, for a regular
  -- tessellation of the one that is made for it, and else of the one of the lesson.
  pub stream :
      IsTrue run.files_tell → IsTrue run.source_tells
      → (kinds : List TileKind) (a : TreeAutomaton) (k : ℕ)
      → Serves (call_of run lesson) kinds a k
      → AnswersStream run lesson kinds a k
  -- Done of the form `run` says that walkers were served, over some such automaton.
  pub served :
      IsTrue run.files_tell → ¬ AreNotOfRun run.words → run.status ≡ Done
      → ServesSome (call_of run lesson)
  pub table : FollowsTable run lesson
  pub no_form : HaveNoForm run.words → GivesAtOnce run Usage (text_of UsageLine)
  pub keeps : KeepsOutside run lesson
