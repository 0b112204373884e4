-- From the way in which a run ended to what becomes of the commands of its input.
use Rattle.std.proofs.Common.{◌≡◌, ℕ, ◌<◌, ◌≤◌, IsTrue, List, [], ◌⊎◌, inl, inr, refl, sym, subst, length, arith}
use Rattle.tile_model.specs.Tessellations.{TileKind}
use Rattle.tree_model.specs.Automata.{TreeAutomaton}
use Rattle.tree_model.specs.Conditions.{IsAccepted}
use Rattle.line_server.specs.Answering.{Answering, over_walks}
use Rattle.tree_laws.specs.Laws.{OfEachTree}
use Rattle.line_server.specs.Laws.{OutputsAgree}
use Rattle.line_server.specs.Lines.{most_of_stream}
use Rattle.line_server.specs.Endings.{IsBegun}
use Rattle.walker_run.specs.declared.status.Status.TheVariants.{Done, Memory, ReadFault, WriteFault, InputTooLong}
use Rattle.walker_run.specs.declared.line.Role.{Role}
use Rattle.walker_run.specs.declared.line.Line.{Line}
use Rattle.walker_run.specs.declared.line.Line.TheVariants.{FileFault}
use Rattle.walker_run.specs.Held.{Lesson}
use Rattle.walker_run.specs.Runs.{Run, call_of}
use Rattle.walker_run.specs.Lines.{IsOutside, status_of}
use Rattle.walker_run.specs.Due.{Serves, MaySay, due, unread, unstored}
use Rattle.walker_run.specs.Outcome.{WritesNothing}
use Rattle.walker_run.specs.Serving.{OutputStands, LinesStand, RefusalStands, BeginningStands}
use Rattle.walker_run.specs.Promise.{IsOutsideOfStream, BeginsLine, AnswersStream}
use Rattle.walker_run.specs.Effects.{End, Says, Opens, Prints, Lacks}
use Rattle.walker_run.specs.Ending.{said, unsaid, unwritten, answered, cut_off, over_limit, broken_off, out_of_memory, IsWritten}
use Rattle.walker_run.specs.Below.{LawsBelow}
use Rattle.walker_run.proofs.OverTree.{stands_over_tree}
use Rattle.walker_run.proofs.Streams.{nothing_begun}
use Rattle.walker_run.proofs.Unique.{never_both, one_session}
use Rattle.walker_run.proofs.Known.{Known, stores_no_run, log_no_run}
use Rattle.walker_run.proofs.TableRows.{SaidSo, Streams, between, silent, begun}

module _ (run : Run) (lesson : Lesson) (answering : Answering) where
  stream_answered : IsTrue run.source_tells → Streams run lesson answering → length run.before.left ≤ most_of_stream → (run.status ≡ Done) ⊎ IsOutsideOfStream run.status
  stream_answered gives (answered is within stands) few = inl is
  stream_answered gives (cut_off is stands) few = inr (inr is)
  stream_answered gives (over_limit is more stands) few = let lt = more gives in absurd (omega (arith, lt, few))
  stream_answered gives (broken_off is stands) few = inr (inl (between run lesson is tt))
  stream_answered gives (out_of_memory is stands) few = inr (inl (between run lesson is tt))

  stream_over : IsTrue run.source_tells → Streams run lesson answering → most_of_stream < length run.before.left → (run.status ≡ InputTooLong) ⊎ IsOutsideOfStream run.status
  stream_over gives (answered is within stands) many = let few = within gives in absurd (omega (arith, many, few))
  stream_over gives (cut_off is stands) many = inr (inr is)
  stream_over gives (over_limit is more stands) many = inl is
  stream_over gives (broken_off is stands) many = inr (inl (between run lesson is tt))
  stream_over gives (out_of_memory is stands) many = inr (inl (between run lesson is tt))

  stream_long : IsTrue run.source_tells → Streams run lesson answering → run.status ≡ InputTooLong → most_of_stream < length run.before.left
  stream_long gives (answered is within stands) long = absurd (cc (is, long))
  stream_long gives (cut_off is stands) long = absurd (cc (is, long))
  stream_long gives (over_limit is more stands) long = more gives
  stream_long gives (broken_off is stands) long = absurd (cc (is, long))
  stream_long gives (out_of_memory is stands) long = absurd (cc (is, long))

  stream_done : IsTrue run.source_tells → Streams run lesson answering → IsTrue run.sink_tells → run.status ≡ Done → OutputStands answering run.before.left run.after.left run.before.taken run.after.taken
  stream_done gives (answered is within stands) takes done = stands gives takes
  stream_done gives (cut_off is stands) takes done = absurd (cc (is, done))
  stream_done gives (over_limit is more stands) takes done = absurd (cc (is, done))
  stream_done gives (broken_off is stands) takes done = absurd (cc (is, done))
  stream_done gives (out_of_memory is stands) takes done = absurd (cc (is, done))

  stream_cut : IsTrue run.source_tells → Streams run lesson answering → IsTrue run.sink_tells → run.status ≡ ReadFault → LinesStand answering run.before.left run.after.left run.before.taken run.after.taken
  stream_cut gives (answered is within stands) takes read = absurd (cc (is, read))
  stream_cut gives (cut_off is stands) takes read = stands gives takes
  stream_cut gives (over_limit is more stands) takes read = absurd (cc (is, read))
  stream_cut gives (broken_off is stands) takes read = absurd (cc (is, read))
  stream_cut gives (out_of_memory is stands) takes read = absurd (cc (is, read))

  stream_refused : IsTrue run.source_tells → Streams run lesson answering → IsTrue run.sink_tells → run.status ≡ InputTooLong → RefusalStands answering run.before.left run.before.taken run.after.taken
  stream_refused gives (answered is within stands) takes long = absurd (cc (is, long))
  stream_refused gives (cut_off is stands) takes long = absurd (cc (is, long))
  stream_refused gives (over_limit is more stands) takes long = stands gives takes
  stream_refused gives (broken_off is stands) takes long = absurd (cc (is, long))
  stream_refused gives (out_of_memory is stands) takes long = absurd (cc (is, long))

  stream_broken : IsTrue run.source_tells → Streams run lesson answering → IsTrue run.sink_tells → run.status ≡ WriteFault → BeginningStands answering run.before.left run.before.taken run.after.taken
  stream_broken gives (answered is within stands) takes broke = absurd (cc (is, broke))
  stream_broken gives (cut_off is stands) takes broke = absurd (cc (is, broke))
  stream_broken gives (over_limit is more stands) takes broke = absurd (cc (is, broke))
  stream_broken gives (broken_off is stands) takes broke = stands gives takes
  stream_broken gives (out_of_memory is stands) takes broke = absurd (cc (is, broke))

  stream_wants : IsTrue run.source_tells → Streams run lesson answering → IsTrue run.sink_tells → run.status ≡ Memory → IsBegun answering [] run.before.left run.before.taken run.after.taken
  stream_wants gives (answered is within stands) takes want = absurd (cc (is, want))
  stream_wants gives (cut_off is stands) takes want = absurd (cc (is, want))
  stream_wants gives (over_limit is more stands) takes want = absurd (cc (is, want))
  stream_wants gives (broken_off is stands) takes want = absurd (cc (is, want))
  stream_wants gives (out_of_memory is stands) takes want = stands gives takes

module _ (run : Run) (lesson : Lesson) (outputs_agree : OfEachTree OutputsAgree) (below : LawsBelow) where
  -- the commands were answered
  stream_answers : (kinds : List TileKind) (a : TreeAutomaton) (k : ℕ) → IsTrue run.source_tells → Serves (call_of run lesson) kinds a k → IsAccepted kinds a → Streams run lesson (over_walks kinds a k) → AnswersStream run lesson kinds a k
  stream_answers kinds a k gives serves accepted ends =
      let by_walks = over_walks kinds a k in
      record {
        answered = stream_answered run lesson by_walks gives ends;
        refused = stream_over run lesson by_walks gives ends;
        over_limit = stream_long run lesson by_walks gives ends;
        at_done = stream_done run lesson by_walks gives ends;
        at_done_over_tree = λ takes done. stands_over_tree outputs_agree (call_of run lesson) kinds a k run.before.left run.after.left run.before.taken run.after.taken serves accepted (stream_done run lesson by_walks gives ends takes done);
        at_read_fault = stream_cut run lesson by_walks gives ends;
        at_input_too_long = stream_refused run lesson by_walks gives ends;
        at_write_fault = λ takes broke. inl (stream_broken run lesson by_walks gives ends takes broke);
        at_memory = stream_wants run lesson by_walks gives ends;
      }

  -- the commands were not read, for a cause of the outside or of memory
  stream_unread : (kinds : List TileKind) (a : TreeAutomaton) (k : ℕ) → IsOutside run.status → (run.status ≡ WriteFault → (role : Role) × BeginsLine run lesson (FileFault role)) → (run.status ≡ Memory → WritesNothing run) → AnswersStream run lesson kinds a k
  stream_unread kinds a k outside broken silent = record {
    answered = λ few. inr (inl outside);
    refused = λ many. inr (inl outside);
    over_limit = λ long. absurd (subst IsOutside long outside);
    at_done = λ takes done. absurd (subst IsOutside done outside);
    at_done_over_tree = λ takes done. absurd (subst IsOutside done outside);
    at_read_fault = λ takes read. absurd (subst IsOutside read outside);
    at_input_too_long = λ takes long. absurd (subst IsOutside long outside);
    at_write_fault = λ takes broke. inr (broken broke);
    at_memory = λ takes want. nothing_begun (over_walks kinds a k) run.before.left run.before.taken run.after.taken (silent want takes);
  }

  said_outside : (line : Line) → IsOutside (status_of line) → SaidSo run lesson line → IsOutside run.status
  said_outside line outside (said is wrote) = between run lesson is outside
  said_outside line outside (unsaid is kept) = between run lesson is tt
  said_outside line outside (unwritten is part) = between run lesson is tt

  -- where walkers are to be served no line is said but that a file could not be read
  said_instead : (kinds : List TileKind) (a : TreeAutomaton) (k : ℕ) → Serves (call_of run lesson) kinds a k → {line : Line} → MaySay (call_of run lesson) line → (role : Role) × (line ≡ FileFault role)
  said_instead kinds a k serves (due line is_due) = absurd (never_both below (call_of run lesson) line kinds a k is_due serves)
  said_instead kinds a k serves (unread role fetches) = (role, refl)
  said_instead kinds a k serves (unstored stores) = absurd (stores_no_run below (call_of run lesson) stores serves.tess k serves.rules serves.form)

  said_unread : (kinds : List TileKind) (a : TreeAutomaton) (k : ℕ) (line : Line) → Known run lesson (Says line) → SaidSo run lesson line → (role : Role) × (line ≡ FileFault role) → AnswersStream run lesson kinds a k
  said_unread kinds a k line known says fault =
      stream_unread kinds a k (said_outside line (subst (λ (l : Line). IsOutside (status_of l)) (sym fault.1) tt) says)
      (λ broke. (fault.0, subst (λ (l : Line). BeginsLine run lesson l) fault.1 (begun run lesson line known says broke)))
      (silent run lesson line says)

  -- what holds of the rules that a call serves holds of all that it may be said to serve
  of_these : (kinds : List TileKind) (a : TreeAutomaton) (k : ℕ) → Serves (call_of run lesson) kinds a k → (kinds' : List TileKind) (a' : TreeAutomaton) (k' : ℕ) → Serves (call_of run lesson) kinds' a' k' → AnswersStream run lesson kinds a k → AnswersStream run lesson kinds' a' k'
  of_these kinds a k serves kinds' a' k' also holds =
      let same = one_session below (call_of run lesson) kinds kinds' a a' k k' serves also in
      subst (λ (n : ℕ). AnswersStream run lesson kinds' a' n) same.2 (subst (λ (x : TreeAutomaton). AnswersStream run lesson kinds' x k) same.1 (subst (λ (ks : List TileKind). AnswersStream run lesson ks a k) same.0 holds))

  pub stream_row : (end : End) → Known run lesson end → IsWritten run end → IsTrue run.files_tell → IsTrue run.source_tells → (kinds : List TileKind) (a : TreeAutomaton) (k : ℕ) → Serves (call_of run lesson) kinds a k → AnswersStream run lesson kinds a k
  stream_row (Says line) known written told gives kinds a k serves =
      said_unread kinds a k line known written.0 (said_instead kinds a k serves (known.reached told))
  stream_row (Opens kinds' a' k') known written told gives kinds a k serves =
      of_these kinds' a' k' (known.reached told) kinds a k serves (stream_answers kinds' a' k' gives (known.reached told) (known.ready kinds' a' k' refl).1 written)
  stream_row (Prints text) known written told gives kinds a k serves =
      absurd (log_no_run below (call_of run lesson) (known.reached told) serves.tess k serves.rules serves.form)
  stream_row Lacks known written told gives kinds a k serves =
      stream_unread kinds a k (between run lesson written.0 tt) (λ broke. absurd (cc (written.0, broke))) (λ want. written.1)
