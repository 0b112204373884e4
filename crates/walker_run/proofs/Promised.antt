-- From the way in which a run ended to all that is promised of it.
use Rattle.std.proofs.Common.{◌≡◌, IsTrue}
use Rattle.line_server.specs.Endings.{GivesInOrder, TakesMore}
use Rattle.way_io.specs.Counts.{Rose}
use Rattle.tree_laws.specs.Laws.{OfEachTree}
use Rattle.line_server.specs.Laws.{OutputsAgree}
use Rattle.walker_run.specs.declared.status.Status.TheVariants.{Usage, FileTooLong, TessRefused, RulesText, NotAccepted, Spherical, Apart, LogRefused, TooDeep, ReadFault, WriteFault}
use Rattle.walker_run.specs.declared.line.Line.{Line}
use Rattle.walker_run.specs.Runs.{Run, call_of}
use Rattle.walker_run.specs.Held.{Lesson}
use Rattle.walker_run.specs.Due.{IsDue}
use Rattle.walker_run.specs.Promise.{KeepsPromise}
use Rattle.walker_run.specs.Effects.{End, Says, Opens, Prints, Lacks}
use Rattle.walker_run.specs.Ending.{IsWritten, Ends}
use Rattle.walker_run.specs.Below.{LawsBelow}
use Rattle.walker_run.proofs.Unique.{never_both}
use Rattle.walker_run.proofs.Known.{Known, known}
use Rattle.walker_run.proofs.TableRows.{merges_row, logs_row, logged_row, exactly, done_row, no_form_row, fault_row, store_row, closed_row, give_up_row, read_row, long_row, memory_row, write_row, served_row, kept_row, unmade_row, stored_row, made_so}
use Rattle.walker_run.proofs.StreamRows.{stream_row}

-- the input is left alone where a line is due
unread_row : LawsBelow → (run : Run) (lesson : Lesson) (end : End) → Known run lesson end → IsWritten run end → IsTrue run.files_tell → (line : Line) → IsDue (call_of run lesson) line → run.after.left ≡ run.before.left
unread_row below run lesson (Says other) known written told line due = written.1
unread_row below run lesson (Opens kinds a k) known written told line due = absurd (never_both below (call_of run lesson) line kinds a k due (known.reached told))
unread_row below run lesson (Prints text) known written told line due = written.1
unread_row below run lesson Lacks known written told line due = written.2

pub promise : LawsBelow → OfEachTree OutputsAgree → (run : Run) → Ends run → (run.status ≡ ReadFault → Rose run.before.failed_reads run.after.failed_reads) → (run.status ≡ WriteFault → Rose run.before.failed_writes run.after.failed_writes)
    → (IsTrue run.sink_tells → TakesMore run.before.taken run.after.taken) → (IsTrue run.source_tells → GivesInOrder run.before.left run.after.left) → KeepsPromise run
promise below agree run ends unread unwritten taken left =
    let found = known run below ends.decided in
    let lesson = found.0 in
    let is = found.1 in
    record {
      lesson = lesson;
      stream = stream_row run lesson agree below ends.end is ends.written;
      served = served_row run lesson below ends.end is ends.written;
      table = record {
        done = done_row run lesson below ends.end is ends.written;
        usage = λ told. exactly run lesson below ends.end is ends.written told Usage tt (λ never. never);
        file_too_long = λ told. exactly run lesson below ends.end is ends.written told FileTooLong tt (λ never. never);
        tess_refused = λ told. exactly run lesson below ends.end is ends.written told TessRefused tt (λ never. never);
        rules_text = λ told. exactly run lesson below ends.end is ends.written told RulesText tt (λ never. never);
        not_accepted = λ told. exactly run lesson below ends.end is ends.written told NotAccepted tt (λ never. never);
        spherical = λ told. exactly run lesson below ends.end is ends.written told Spherical tt (λ never. never);
        apart = λ told. exactly run lesson below ends.end is ends.written told Apart tt (λ never. never);
        log_refused = λ told. exactly run lesson below ends.end is ends.written told LogRefused tt (λ never. never);
        too_deep = λ told. exactly run lesson below ends.end is ends.written told TooDeep tt (λ never. never);
        logs = logs_row run lesson below ends.end is ends.written;
        logged = logged_row run lesson below ends.end is ends.written;
        merges = merges_row run lesson below ends.end is ends.written;
        made = made_so run lesson below ends.end is ends.written;
        closed = closed_row run lesson ends.end is ends.written;
        gave_up = give_up_row run lesson ends.end is ends.written;
        file_fault = fault_row run lesson ends.end is ends.written;
        store_fault = store_row run lesson ends.end is ends.written;
        read_fault = λ read. record { serving = read_row run lesson ends.end is ends.written read; counted = unread read };
        write_fault = λ broke. record { begun = write_row run lesson ends.end is ends.written broke; counted = unwritten broke };
        input_too_long = long_row run lesson ends.end is ends.written;
        memory = memory_row run lesson ends.end is ends.written;
      };
      no_form = no_form_row run lesson ends.end is ends.written;
      keeps = record {
        others = is.others;
        contents = kept_row run lesson ends.end is ends.written;
        unmade = unmade_row run lesson ends.end is;
        stored = stored_row run lesson below ends.end is ends.written;
        stores = is.stores;
        taken = taken;
        left = left;
        unread = unread_row below run lesson ends.end is ends.written;
      };
    }
