-- How a run ends, whatever its files, its source and its sink tell.
use Rattle.std.specs.Prelude.{◌≡◌, ℕ, ◌<◌, ◌≤◌, Bool, IsTrue, List, [], ◌++◌, length}
use Rattle.line_server.specs.Answering.{Answering, over_walks}
use Rattle.line_server.specs.Lines.{most_of_stream}
use Rattle.line_server.specs.Endings.{IsBegun}
use Rattle.way_io.specs.Pieces.{AppendsPrefix}
use Rattle.walker_run.specs.declared.status.Status.{Status}
use Rattle.walker_run.specs.declared.status.Status.TheVariants.{Done, ReadFault, WriteFault}
use Rattle.walker_run.specs.declared.status.Status.TheVariants.{InputTooLong, Memory}
use Rattle.walker_run.specs.declared.line.Line.{Line}
use Rattle.walker_run.specs.Runs.{Outside, Run}
use Rattle.walker_run.specs.Lines.{status_of, text_of}
use Rattle.walker_run.specs.Serving.{OutputStands, LinesStand, RefusalStands, BeginningStands}
use Rattle.walker_run.specs.Effects.{FilesSeen, TeacherSeen, End, Says, Opens, Prints, Lacks}
use Rattle.walker_run.specs.Effects.{IsDecided}

-- The line was appended, or a beginning of it, or nothing for want of memory.
pub data SaysLine (takes : Bool) (line : Line) (taken taken' : List ℕ) (status : Status) :
    Type 0 where
  said :
      status ≡ status_of line
      → (IsTrue takes → taken' ≡ taken ++ text_of line)
      → SaysLine takes line taken taken' status
  unsaid :
      status ≡ Memory
      → (IsTrue takes → taken' ≡ taken)
      → SaysLine takes line taken taken' status
  unwritten :
      status ≡ WriteFault
      → (IsTrue takes → AppendsPrefix taken taken' (text_of line))
      → SaysLine takes line taken taken' status

-- The text was appended, or a beginning of it.
pub data PrintsText (takes : Bool) (text taken taken' : List ℕ) (status : Status) : Type 0 where
  printed :
      status ≡ Done
      → (IsTrue takes → taken' ≡ taken ++ text)
      → PrintsText takes text taken taken' status
  unprinted :
      status ≡ WriteFault
      → (IsTrue takes → AppendsPrefix taken taken' text)
      → PrintsText takes text taken taken' status

-- The commands of a stream were answered, up to where its status says.
pub data EndsStream
    (gives takes : Bool) (answering : Answering)
    (left left' taken taken' : List ℕ) (status : Status) : Type 0 where
  answered :
      status ≡ Done
      → (IsTrue gives → length left ≤ most_of_stream)
      → (IsTrue gives → IsTrue takes → OutputStands answering left left' taken taken')
      → EndsStream gives takes answering left left' taken taken' status
  cut_off :
      status ≡ ReadFault
      → (IsTrue gives → IsTrue takes → LinesStand answering left left' taken taken')
      → EndsStream gives takes answering left left' taken taken' status
  over_limit :
      status ≡ InputTooLong
      → (IsTrue gives → most_of_stream < length left)
      → (IsTrue gives → IsTrue takes → RefusalStands answering left taken taken')
      → EndsStream gives takes answering left left' taken taken' status
  broken_off :
      status ≡ WriteFault
      → (IsTrue gives → IsTrue takes → BeginningStands answering left taken taken')
      → EndsStream gives takes answering left left' taken taken' status
  out_of_memory :
      status ≡ Memory
      → (IsTrue gives → IsTrue takes → IsBegun answering [] left taken taken')
      → EndsStream gives takes answering left left' taken taken' status

-- what the files and the teacher tell, of all that is seen of the outside
abbrev pub files_of : Outside → FilesSeen
files_of outside = record {
  contents = outside.contents;
  failed_fetches = outside.failed_fetches;
  failed_stores = outside.failed_stores;
}

abbrev pub teacher_of : Outside → TeacherSeen
teacher_of outside =
    record { give_ups = outside.give_ups; last_give_up = outside.last_give_up }

-- What was written, once it was known what the words come to.
-- The input is read only where walkers are served.
abbrev pub IsWritten : Run → End → Type 0
IsWritten run (Says line) =
    SaysLine run.sink_tells line run.before.taken run.after.taken run.status
    × (run.after.left ≡ run.before.left)
IsWritten run (Opens kinds a k) =
    EndsStream run.source_tells run.sink_tells (over_walks kinds a k)
    run.before.left run.after.left run.before.taken run.after.taken run.status
IsWritten run (Prints text) =
    PrintsText run.sink_tells text run.before.taken run.after.taken run.status
    × (run.after.left ≡ run.before.left)
IsWritten run Lacks =
    (run.status ≡ Memory)
    × (IsTrue run.sink_tells → run.after.taken ≡ run.before.taken)
    × (run.after.left ≡ run.before.left)

-- how a run ends
pub record Ends (run : Run) : Type 0 where
  pub end : End
  pub decided :
      IsDecided run.files_tell run.words (files_of run.before) (files_of run.after)
      (teacher_of run.before) (teacher_of run.after) end
  pub written : IsWritten run end
