-- From the way in which a run ended to the rows of the table.
use Rattle.std.proofs.Common.{◌≡◌, ℕ, IsTrue, List, Option, Some, ◌++◌, ◌⊎◌, inl, inr, refl, sym, ◌∙◌, ap, subst, length}
use Rattle.tile_model.specs.Tessellations.{TileKind}
use Rattle.tree_model.specs.Automata.{TreeAutomaton}
use Rattle.rules_file.specs.Spelling.{rules_text}
use Rattle.line_server.specs.Answering.{Answering, over_walks}
use Rattle.way_io.specs.Contents.{KeepsAll}
use Rattle.call_words.specs.Tasks.{Task, TellType, CheckRules, RunSession, LearnRules, MergeRules, WriteLog, VerifyLog, FromFile, FromTeacher, Ask, HaveNoForm, AreNotOfRun, AreNotOfLog}
use Rattle.walker_run.specs.declared.status.Status.{Status}
use Rattle.walker_run.specs.declared.status.Status.TheVariants.{Done, Usage as UsageStatus, FileFault as FileFaultStatus, FileTooLong as FileTooLongStatus, TessRefused, RulesText, NotAccepted, Spherical as SphericalStatus, Closed as ClosedStatus, GaveUp as GaveUpStatus, StoreFault as StoreFaultStatus, Memory, ReadFault, WriteFault, InputTooLong as InputTooLongStatus, Apart as ApartStatus, LogRefused as LogRefusedStatus, TooDeep as TooDeepStatus}
use Rattle.walker_run.specs.declared.line.Role.{Role}
use Rattle.walker_run.specs.declared.line.Line.{Line}
use Rattle.walker_run.specs.declared.line.Line.TheVariants.{TypeTold, Accepted, Usage, FileFault, FileTooLong, TessLine, TessKinds, RulesSyntax, RulesShape, Broken, Spherical, Closed, GaveUp, StoreFault, InputTooLong, Related, Apart, TooDeep, LogLine, LogChange, LogEnd}
use Rattle.walker_run.specs.Runs.{Run, call_of}
use Rattle.walker_run.specs.Lines.{IsOutside, MayStore, status_of, text_of}
use Rattle.walker_run.specs.Held.{Lesson, Refused, IsRules, tess_loaded, rules_loaded}
use Rattle.walker_run.specs.Due.{CheckRow, check_no_tess, check_no_rules, check_accepted, MergeRow, merge_no_tess, merge_no_rules, merge_accepted, Row, IsDue, by_task, ServesSome, Logs, LogsText, MakesFor, IsToMake, StoresAs, MaySay, due, unread, unstored, Stores, Fetches}
use Rattle.walker_run.specs.Outcome.{Writes, WritesBeginning, WritesNothing, ComesExactly, GivesAtOnce, MergesFiles}
use Rattle.walker_run.specs.Promise.{BeginsLine, BeginsFault, BeginsLog, TellsLog, IsServing, TellsFileFault, TellsStoreFault, TellsClosed, TellsGiveUp, TellsMade, StoresRules}
use Rattle.walker_run.specs.Effects.{End, Says, Opens, Prints, Lacks, MayStoreAt}
use Rattle.walker_run.specs.Ending.{SaysLine, said, unsaid, unwritten, PrintsText, printed, unprinted, EndsStream, answered, cut_off, over_limit, broken_off, out_of_memory, IsWritten}
use Rattle.walker_run.specs.Below.{LawsBelow}
use Rattle.walker_run.proofs.Unique.{one_line, never_both, never_a_log, row_of, one_loaded, not_refused_too, one_rules}
use Rattle.walker_run.proofs.LineKinds.{kind_of, refusal_undone, session_kind, unlogged_kind, tess_kind, done_accepted, due_no_fault}
use Rattle.walker_run.proofs.Keeping.{made_row}
use Rattle.walker_run.proofs.Known.{Known, to_make, not_of_run, log_no_run}

-- the statuses with which only a line that is due comes
abbrev pub IsOfLine : Status → Type 0
IsOfLine ReadFault = ⊥
IsOfLine InputTooLongStatus = ⊥
IsOfLine FileFaultStatus = ⊥
IsOfLine StoreFaultStatus = ⊥
IsOfLine WriteFault = ⊥
IsOfLine Memory = ⊥
IsOfLine _ = Unit {0}

-- the status of a stream that is answered to its end
abbrev pub IsDone : Status → Type 0
IsDone Done = Unit {0}
IsDone _ = ⊥

-- no line has the status of a failed write, of want of memory or of a failed read
abbrev IsSpoken : Status → Type 0
IsSpoken WriteFault = ⊥
IsSpoken Memory = ⊥
IsSpoken ReadFault = ⊥
IsSpoken _ = Unit {0}

spoken : (line : Line) → IsSpoken (status_of line)
spoken (TypeTold d) = tt
spoken (Accepted states corners) = tt
spoken Usage = tt
spoken (FileFault role) = tt
spoken (FileTooLong role) = tt
spoken (TessLine n) = tt
spoken (TessKinds fault) = tt
spoken RulesSyntax = tt
spoken (RulesShape part index) = tt
spoken (Broken at) = tt
spoken (Spherical p q) = tt
spoken (Closed n) = tt
spoken (GaveUp n) = tt
spoken StoreFault = tt
spoken InputTooLong = tt
spoken Related = tt
spoken Apart = tt
spoken TooDeep = tt
spoken (LogLine n) = tt
spoken (LogChange n) = tt
spoken LogEnd = tt

-- the line of a status that has one line alone
abbrev IsLineOf : Status → Line → Type 0
IsLineOf FileFaultStatus line = (role : Role) × (line ≡ FileFault role)
IsLineOf StoreFaultStatus line = line ≡ StoreFault
IsLineOf ClosedStatus line = (n : ℕ) × (line ≡ Closed n)
IsLineOf GaveUpStatus line = (n : ℕ) × (line ≡ GaveUp n)
IsLineOf InputTooLongStatus line = line ≡ InputTooLong
IsLineOf _ line = Unit {0}

line_by_status : (line : Line) → IsLineOf (status_of line) line
line_by_status (TypeTold d) = tt
line_by_status (Accepted states corners) = tt
line_by_status Usage = tt
line_by_status (FileFault role) = (role, refl)
line_by_status (FileTooLong role) = tt
line_by_status (TessLine n) = tt
line_by_status (TessKinds fault) = tt
line_by_status RulesSyntax = tt
line_by_status (RulesShape part index) = tt
line_by_status (Broken at) = tt
line_by_status (Spherical p q) = tt
line_by_status (Closed n) = (n, refl)
line_by_status (GaveUp n) = (n, refl)
line_by_status StoreFault = refl
line_by_status InputTooLong = refl
line_by_status Related = tt
line_by_status Apart = tt
line_by_status TooDeep = tt
line_by_status (LogLine n) = tt
line_by_status (LogChange n) = tt
line_by_status LogEnd = tt

line_with : (line : Line) (status : Status) → status_of line ≡ status → IsLineOf status line
line_with line status is = subst (λ (s : Status). IsLineOf s line) is (line_by_status line)

-- no status of a line tells of the outside
line_untold : (status : Status) → IsOfLine status → IsOutside status → ⊥
line_untold Done line outside = outside
line_untold UsageStatus line outside = outside
line_untold FileFaultStatus line outside = line
line_untold FileTooLongStatus line outside = outside
line_untold TessRefused line outside = outside
line_untold RulesText line outside = outside
line_untold NotAccepted line outside = outside
line_untold SphericalStatus line outside = outside
line_untold ClosedStatus line outside = outside
line_untold GaveUpStatus line outside = outside
line_untold Memory line outside = line
line_untold ReadFault line outside = line
line_untold WriteFault line outside = line
line_untold StoreFaultStatus line outside = line
line_untold InputTooLongStatus line outside = line
line_untold ApartStatus line outside = outside
line_untold LogRefusedStatus line outside = outside
line_untold TooDeepStatus line outside = outside

module _ (run : Run) (lesson : Lesson) where
  -- the line of this run, and its stream
  abbrev pub SaidSo : Line → Type 0
  SaidSo line = SaysLine run.sink_tells line run.before.taken run.after.taken run.status

  abbrev pub Streams : Answering → Type 0
  Streams answering = EndsStream run.source_tells run.sink_tells answering run.before.left run.after.left run.before.taken run.after.taken run.status

  pub between : {status : Status} → run.status ≡ status → IsOutside status → IsOutside run.status
  between is outside = subst IsOutside (sym is) outside

  -- nothing that is due was said, for a cause of the outside or of memory
  unanswered : (status : Status) → IsOfLine status → IsOutside run.status → ComesExactly run lesson status
  unanswered status line outside = record {
    only = λ same. absurd (line_untold status line (subst IsOutside same outside));
    always = λ other is_due is. inr outside;
  }

  -- of the statuses of lines a stream ends with Done alone
  stream_done : (answering : Answering) → Streams answering → (status : Status) → run.status ≡ status → IsOfLine status → IsDone status
  stream_done answering (answered is few stands) status same line = subst IsDone (sym is ∙ same) tt
  stream_done answering (cut_off is stands) status same line = absurd (subst IsOfLine (sym same ∙ is) line)
  stream_done answering (over_limit is more stands) status same line = absurd (subst IsOfLine (sym same ∙ is) line)
  stream_done answering (broken_off is stands) status same line = absurd (subst IsOfLine (sym same ∙ is) line)
  stream_done answering (out_of_memory is stands) status same line = absurd (subst IsOfLine (sym same ∙ is) line)

  -- a stream ends with no status of a refusal
  abbrev IsOfAnswers : Status → Type 0
  IsOfAnswers FileFaultStatus = ⊥
  IsOfAnswers StoreFaultStatus = ⊥
  IsOfAnswers ClosedStatus = ⊥
  IsOfAnswers GaveUpStatus = ⊥
  IsOfAnswers _ = Unit {0}

  stream_status : (answering : Answering) → Streams answering → IsOfAnswers run.status
  stream_status answering (answered is few stands) = subst IsOfAnswers (sym is) tt
  stream_status answering (cut_off is stands) = subst IsOfAnswers (sym is) tt
  stream_status answering (over_limit is more stands) = subst IsOfAnswers (sym is) tt
  stream_status answering (broken_off is stands) = subst IsOfAnswers (sym is) tt
  stream_status answering (out_of_memory is stands) = subst IsOfAnswers (sym is) tt

  -- a text that is written ends with Done or with a failed write
  abbrev PrintedSo : List ℕ → Type 0
  PrintedSo text = PrintsText run.sink_tells text run.before.taken run.after.taken run.status

  abbrev IsOfText : Status → Type 0
  IsOfText Done = Unit {0}
  IsOfText WriteFault = Unit {0}
  IsOfText _ = ⊥

  text_status : (text : List ℕ) → PrintedSo text → IsOfText run.status
  text_status text (printed is wrote) = subst IsOfText (sym is) tt
  text_status text (unprinted is part) = subst IsOfText (sym is) tt

  text_done : (text : List ℕ) → PrintedSo text → (status : Status) → run.status ≡ status → IsOfLine status → IsDone status
  text_done text (printed is wrote) status same line = subst IsDone (sym is ∙ same) tt
  text_done text (unprinted is part) status same line = absurd (subst IsOfLine (sym same ∙ is) line)

  text_whole : (text : List ℕ) → PrintedSo text → run.status ≡ Done → Writes run text
  text_whole text (printed is wrote) done = wrote
  text_whole text (unprinted is part) done = absurd (cc (is, done))

  text_part : (text : List ℕ) → PrintedSo text → run.status ≡ WriteFault → WritesBeginning run text
  text_part text (printed is wrote) broke = absurd (cc (is, broke))
  text_part text (unprinted is part) broke = part

  -- the run serves walkers
  pub serving : (kinds : List TileKind) (a : TreeAutomaton) (k : ℕ) → Known run lesson (Opens kinds a k) → IsServing run lesson
  serving kinds a k known = record { asked = (known.ready kinds a k refl).0; serves = λ told. record { kinds = kinds; automaton = a; kind = k; serves = known.reached told } }

  -- words in no form
  at_once : (line : Line) → line ≡ Usage → SaidSo line → GivesAtOnce run UsageStatus (text_of Usage)
  at_once line usage (said is wrote) = inl (is ∙ ap status_of usage, λ told. wrote told ∙ ap (λ (l : Line). run.before.taken ++ text_of l) usage)
  at_once line usage (unsaid is kept) = inr (inl is)
  at_once line usage (unwritten is part) = inr (inr is)

  pub no_form_row : (end : End) → Known run lesson end → IsWritten run end → HaveNoForm run.words → GivesAtOnce run UsageStatus (text_of Usage)
  no_form_row (Says line) known written none = elim (known.formless none) [
    | inl is ↦ at_once line (cc is) written.0
    | inr is ↦ absurd (cc is)
  ]
  no_form_row (Opens kinds a k) known written none = elim (known.formless none) [ inl is ↦ absurd (cc is) | inr is ↦ absurd (cc is) ]
  no_form_row (Prints text) known written none = elim (known.formless none) [ inl is ↦ absurd (cc is) | inr is ↦ absurd (cc is) ]
  no_form_row Lacks known written none = inr (inl written.0)

  unread_line : (line : Line) → SaidSo line → run.status ≡ ReadFault → ⊥
  unread_line line (said is wrote) read = subst IsSpoken (sym is ∙ read) (spoken line)
  unread_line line (unsaid is kept) read = absurd (cc (is, read))
  unread_line line (unwritten is part) read = absurd (cc (is, read))

  -- the line of a status that has one line alone, in a run
  said_with : (line : Line) (status : Status) → IsSpoken status → SaidSo line → run.status ≡ status → (status_of line ≡ status) × Writes run (text_of line)
  said_with line status some (said is wrote) same = (sym is ∙ same, wrote)
  said_with line status some (unsaid is kept) same = absurd (subst IsSpoken (sym same ∙ is) some)
  said_with line status some (unwritten is part) same = absurd (subst IsSpoken (sym same ∙ is) some)

  fetches_of : (role : Role) {line : Line} → line ≡ FileFault role → MaySay (call_of run lesson) line → Fetches (call_of run lesson) role
  fetches_of role is (due l is_due) = absurd (due_no_fault (call_of run lesson) is_due (ap kind_of is))
  fetches_of role is (unread other fetches) = let same : other ≡ role = cc is in subst (λ (r : Role). Fetches (call_of run lesson) r) same fetches
  fetches_of role is (unstored stores) = absurd (cc is)

  stores_of : {line : Line} → line ≡ StoreFault → MaySay (call_of run lesson) line → Stores (call_of run lesson)
  stores_of is (due l is_due) = absurd (due_no_fault (call_of run lesson) is_due (ap kind_of is))
  stores_of is (unread other fetches) = absurd (cc is)
  stores_of is (unstored stores) = stores

  -- a file that could not be read
  pub fault_row : (end : End) → Known run lesson end → IsWritten run end → run.status ≡ FileFaultStatus → TellsFileFault run lesson
  fault_row (Says line) known written fault =
      let told = said_with line FileFaultStatus tt written.0 fault in
      let found = line_with line FileFaultStatus told.0 in
      record {
        role = found.0;
        fetches = λ tell. fetches_of found.0 found.1 (known.reached tell);
        counted = known.fetches found.0 (ap Says found.1);
        written = subst (λ (l : Line). Writes run (text_of l)) found.1 told.1;
      }
  fault_row (Opens kinds a k) known written fault = absurd (subst IsOfAnswers fault (stream_status (over_walks kinds a k) written))
  fault_row (Prints text) known written fault = absurd (subst IsOfText fault (text_status text written.0))
  fault_row Lacks known written fault = absurd (cc (written.0, fault))

  -- a file that could not be written
  pub store_row : (end : End) → Known run lesson end → IsWritten run end → run.status ≡ StoreFaultStatus → TellsStoreFault run lesson
  store_row (Says line) known written fault =
      let told = said_with line StoreFaultStatus tt written.0 fault in
      let found : line ≡ StoreFault = line_with line StoreFaultStatus told.0 in
      record {
        stores = λ tell. stores_of found (known.reached tell);
        counted = known.unwritten (ap Says found);
        written = subst (λ (l : Line). Writes run (text_of l)) found told.1;
      }
  store_row (Opens kinds a k) known written fault = absurd (subst IsOfAnswers fault (stream_status (over_walks kinds a k) written))
  store_row (Prints text) known written fault = absurd (subst IsOfText fault (text_status text written.0))
  store_row Lacks known written fault = absurd (cc (written.0, fault))

  -- the rows of a teacher that refused
  pub closed_row : (end : End) → Known run lesson end → IsWritten run end → run.status ≡ ClosedStatus → TellsClosed run
  closed_row (Says line) known written closed =
      let told = said_with line ClosedStatus tt written.0 closed in
      let found = line_with line ClosedStatus told.0 in
      record { n = found.0; closed = known.closed found.0 (ap Says found.1); written = subst (λ (l : Line). Writes run (text_of l)) found.1 told.1 }
  closed_row (Opens kinds a k) known written closed = absurd (subst IsOfAnswers closed (stream_status (over_walks kinds a k) written))
  closed_row (Prints text) known written closed = absurd (subst IsOfText closed (text_status text written.0))
  closed_row Lacks known written closed = absurd (cc (written.0, closed))

  pub give_up_row : (end : End) → Known run lesson end → IsWritten run end → run.status ≡ GaveUpStatus → TellsGiveUp run
  give_up_row (Says line) known written gave =
      let told = said_with line GaveUpStatus tt written.0 gave in
      let found = line_with line GaveUpStatus told.0 in
      record { cells = found.0; gave_up = known.gave_up found.0 (ap Says found.1); written = subst (λ (l : Line). Writes run (text_of l)) found.1 told.1 }
  give_up_row (Opens kinds a k) known written gave = absurd (subst IsOfAnswers gave (stream_status (over_walks kinds a k) written))
  give_up_row (Prints text) known written gave = absurd (subst IsOfText gave (text_status text written.0))
  give_up_row Lacks known written gave = absurd (cc (written.0, gave))

  -- the statuses of the stream come only where walkers are served
  pub read_row : (end : End) → Known run lesson end → IsWritten run end → run.status ≡ ReadFault → IsServing run lesson
  read_row (Says line) known written read = absurd (unread_line line written.0 read)
  read_row (Opens kinds a k) known written read = serving kinds a k known
  read_row (Prints text) known written read = absurd (subst IsOfText read (text_status text written.0))
  read_row Lacks known written read = absurd (cc (written.0, read))

  pub long_row : (end : End) → Known run lesson end → IsWritten run end → run.status ≡ InputTooLongStatus → IsServing run lesson
  long_row (Says line) known written long =
      let told = said_with line InputTooLongStatus tt written.0 long in
      let found : line ≡ InputTooLong = line_with line InputTooLongStatus told.0 in
      absurd (known.short (ap Says found))
  long_row (Opens kinds a k) known written long = serving kinds a k known
  long_row (Prints text) known written long = absurd (subst IsOfText long (text_status text written.0))
  long_row Lacks known written long = absurd (cc (written.0, long))

  -- want of memory
  pub silent : (line : Line) → SaidSo line → run.status ≡ Memory → WritesNothing run
  silent line (said is wrote) want = absurd (subst IsSpoken (sym is ∙ want) (spoken line))
  silent line (unsaid is kept) want = kept
  silent line (unwritten is part) want = absurd (cc (is, want))

  pub memory_row : (end : End) → Known run lesson end → IsWritten run end → run.status ≡ Memory → WritesNothing run ⊎ IsServing run lesson
  memory_row (Says line) known written want = inl (silent line written.0 want)
  memory_row (Opens kinds a k) known written want = inr (serving kinds a k known)
  memory_row (Prints text) known written want = absurd (subst IsOfText want (text_status text written.0))
  memory_row Lacks known written want = inl written.1

  -- a write that failed
  pub begun : (line : Line) → Known run lesson (Says line) → SaidSo line → run.status ≡ WriteFault → BeginsLine run lesson line
  begun line known (said is wrote) broke = absurd (subst IsSpoken (sym is ∙ broke) (spoken line))
  begun line known (unsaid is kept) broke = absurd (cc (is, broke))
  begun line known (unwritten is part) broke = record {
    may = known.reached;
    counted = λ role is_fault. known.fetches role (ap Says is_fault);
    store_counted = λ is_fault. known.unwritten (ap Says is_fault);
    closed = λ n is_closed. known.closed n (ap Says is_closed);
    gave_up = λ n is_gave. known.gave_up n (ap Says is_gave);
    short = λ is_long. known.short (ap Says is_long);
    written = part;
  }

  pub write_row : (end : End) → Known run lesson end → IsWritten run end → run.status ≡ WriteFault → ((line : Line) × BeginsLine run lesson line) ⊎ (IsServing run lesson ⊎ BeginsLog run lesson)
  write_row (Says line) known written broke = inl (line, begun line known written.0 broke)
  write_row (Opens kinds a k) known written broke = inr (inl (serving kinds a k known))
  write_row (Prints text) known written broke = inr (inr (record { text = text; asked = known.logs text refl; logs = known.reached; written = text_part text written.0 broke }))
  write_row Lacks known written broke = absurd (cc (written.0, broke))

  -- what the files hold
  pub kept_row : (end : End) → Known run lesson end → IsWritten run end → IsTrue run.files_tell → (MayStore run.status → ⊥) → KeepsAll run.before.contents run.after.contents
  kept_row end known written told never = elim (known.kept told) [
    | inl same ↦ same
    | inr stored ↦ absurd (never (may_store end written stored.1))
  ]
    where
      line_may : (line : Line) → SaidSo line → MayStore (status_of line) → MayStore run.status
      line_may line (said is wrote) may = subst MayStore (sym is) may
      line_may line (unsaid is kept) may = subst MayStore (sym is) tt
      line_may line (unwritten is part) may = subst MayStore (sym is) tt

      may_store : (e : End) → IsWritten run e → MayStoreAt e → MayStore run.status
      may_store (Says line) w may = line_may line w.0 may
      may_store (Opens kinds a k) w may = absurd may
      may_store (Prints text) w may = absurd may
      may_store Lacks w may = subst MayStore (sym w.0) tt

  pub unmade_row : (end : End) → Known run lesson end → IsTrue run.files_tell → (Stores (call_of run lesson) → ⊥) → KeepsAll run.before.contents run.after.contents
  unmade_row end known told never = elim (known.kept told) [
    | inl same ↦ same
    | inr stored ↦ absurd (never stored.0)
  ]

  -- of rules that are made nothing else is said than their numbers, where no fault is told
  accepted_due : (task : Task) (kinds : List TileKind) (a : TreeAutomaton) → Ask run.words task → MakesFor run.before.contents lesson task kinds a → IsDue (call_of run lesson) (Accepted (length a.states) (length a.corners))
  accepted_due task kinds a ask makes = by_task task (Accepted (length a.states) (length a.corners)) ask (made_row run.before.contents lesson task kinds a makes)

  -- the rules for which a line tells that they are made, with the status Done
  pub record IsMaking (task : Task) (line : Line) : Type 0 where
    pub kinds : List TileKind
    pub automaton : TreeAutomaton
    pub makes : MakesFor run.before.contents lesson task kinds automaton
    pub is : line ≡ Accepted (length automaton.states) (length automaton.corners)

  learnt_line : (tess : List ℕ) (cells : ℕ) (out : Option (List ℕ)) {line : Line} → CheckRow run.before.contents lesson tess (FromTeacher cells) line → status_of line ≡ Done → IsMaking (LearnRules tess cells out) line
  learnt_line tess cells out (check_no_tess line is) done = absurd (refusal_undone line (tess_kind run.before.contents tess line is) done)
  learnt_line tess cells out (check_no_rules kinds line is refused) done = absurd (done_accepted run.before.contents lesson tess (FromTeacher cells) kinds line refused done)
  learnt_line tess cells out (check_accepted kinds a is loaded) done = record { kinds = kinds; automaton = a; makes = record { loaded = is; made = loaded }; is = refl }

  merged_line : (tess rules out : List ℕ) {line : Line} → MergeRow run.before.contents tess rules line → status_of line ≡ Done → IsMaking (MergeRules tess rules out) line
  merged_line tess rules out (merge_no_tess line is) done = absurd (refusal_undone line (tess_kind run.before.contents tess line is) done)
  merged_line tess rules out (merge_no_rules kinds line is refused) done = absurd (done_accepted run.before.contents lesson tess (FromFile rules) kinds line refused done)
  merged_line tess rules out (merge_accepted kinds a merges) done = record { kinds = kinds; automaton = a; makes = merges; is = refl }

  making_line : (task : Task) {line : Line} → IsToMake task → Row run.before.contents lesson task line → status_of line ≡ Done → IsMaking task line
  making_line (TellType tess k walk) make row done = absurd make
  making_line (CheckRules tess rules) make row done = absurd make
  making_line (RunSession tess k rules) make row done = absurd make
  making_line (LearnRules tess cells out) make row done = learnt_line tess cells out row done
  making_line (MergeRules tess rules out) make row done = merged_line tess rules out row done
  making_line (WriteLog tess rules k u w) make row done = absurd make
  making_line (VerifyLog tess k u w log) make row done = absurd make

  -- a line whose status is Done or tells of the outside, said or not
  abbrev EndsSo : Status → Type 0
  EndsSo status = (status ≡ Done) ⊎ IsOutside status

  so_said : (line : Line) → EndsSo (status_of line) → SaidSo line → EndsSo run.status
  so_said line ends (said is wrote) = subst EndsSo (sym is) ends
  so_said line ends (unsaid is kept) = inr (between is tt)
  so_said line ends (unwritten is part) = inr (between is tt)

  -- a text that is written is that of a log, for related walks that pass no tile too far
  logs_of : {text : List ℕ} → LogsText (call_of run lesson) text → Logs (call_of run lesson)
  logs_of l = record { tess = l.tess; rules = l.rules; k = l.k; u = l.u; w = l.w; kinds = l.logs.kinds; form = l.form; ready = l.logs.ready; related = (l.logs.log, l.logs.leads) }

  -- what rests on the laws by which the table says one thing
  module _ (below : LawsBelow) where
    -- where a log is written no other task is asked for
    logs_alone : {text : List ℕ} → (l : LogsText (call_of run lesson) text) → (task : Task) → Ask run.words task → task ≡ WriteLog l.tess l.rules l.k l.u l.w
    logs_alone l task ask = below.one_task run.words task (WriteLog l.tess l.rules l.k l.u l.w) ask l.form

    said_due : (line : Line) (status : Status) → IsOfLine status → run.status ≡ status_of line → Writes run (text_of line) → MaySay (call_of run lesson) line → ComesExactly run lesson status
    said_due line status of_line is wrote (due l is_due) = record {
      only = λ same. (l, is_due, sym is ∙ same, wrote);
      always = λ other also other_is.
          let same : l ≡ other = one_line below (call_of run lesson) l other is_due also in
          inl (is ∙ ap status_of same ∙ other_is, subst (λ (x : Line). Writes run (text_of x)) same wrote);
    }
    said_due line status of_line is wrote (unread role fetches) = unanswered status of_line (between is tt)
    said_due line status of_line is wrote (unstored stores) = unanswered status of_line (between is tt)

    said_exactly : (line : Line) (status : Status) → IsOfLine status → MaySay (call_of run lesson) line → SaidSo line → ComesExactly run lesson status
    said_exactly line status of_line may (said is wrote) = said_due line status of_line is wrote may
    said_exactly line status of_line may (unsaid is kept) = unanswered status of_line (between is tt)
    said_exactly line status of_line may (unwritten is part) = unanswered status of_line (between is tt)

    -- the row of a status of lines other than Done
    pub exactly : (end : End) → Known run lesson end → IsWritten run end → IsTrue run.files_tell → (status : Status) → IsOfLine status → (IsDone status → ⊥) → ComesExactly run lesson status
    exactly (Says line) known written told status of_line other = said_exactly line status of_line (known.reached told) written.0
    exactly (Opens kinds a k) known written told status of_line other = record {
      only = λ same. absurd (other (stream_done (over_walks kinds a k) written status same of_line));
      always = λ line is_due is. absurd (never_both below (call_of run lesson) line kinds a k is_due (known.reached told));
    }
    exactly (Prints text) known written told status of_line other = record {
      only = λ same. absurd (other (text_done text written.0 status same of_line));
      always = λ line is_due is. absurd (never_a_log below (call_of run lesson) line is_due (logs_of (known.reached told)));
    }
    exactly Lacks known written told status of_line other = unanswered status of_line (between written.0 tt)

    -- the row of Done
    pub done_row : (end : End) → Known run lesson end → IsWritten run end → IsTrue run.files_tell → ServesSome (call_of run lesson) ⊎ (Logs (call_of run lesson) ⊎ ComesExactly run lesson Done)
    done_row (Says line) known written told = inr (inr (said_exactly line Done tt (known.reached told) written.0))
    done_row (Opens kinds a k) known written told = inl ((serving kinds a k known).serves told)
    done_row (Prints text) known written told = inr (inl (logs_of (known.reached told)))
    done_row Lacks known written told = inr (inr (unanswered Done tt (between written.0 tt)))

    -- no line that may be said to words of the form `run` has the status Done
    unserved : (line : Line) → MaySay (call_of run lesson) line → status_of line ≡ Done → AreNotOfRun run.words
    unserved line (due l is_due) done = λ tess k rules form.
        refusal_undone l (session_kind run.before.contents lesson tess k rules (row_of below (call_of run lesson) (RunSession tess k rules) form is_due)) done
    unserved line (unread role fetches) done = absurd (cc done)
    unserved line (unstored stores) done = absurd (cc done)

    pub served_row : (end : End) → Known run lesson end → IsWritten run end → IsTrue run.files_tell → ¬ AreNotOfRun run.words → run.status ≡ Done → ServesSome (call_of run lesson)
    served_row (Says line) known written told form done =
        let is = said_with line Done tt written.0 done in
        absurd (form (unserved line (known.reached told) is.0))
    served_row (Opens kinds a k) known written told form done = (serving kinds a k known).serves told
    served_row (Prints text) known written told form done = absurd (form (log_no_run below (call_of run lesson) (known.reached told)))
    served_row Lacks known written told form done = absurd (cc (written.0, done))

    -- no line that may be said to words of the form `log` has the status Done
    unlogged : (line : Line) → MaySay (call_of run lesson) line → status_of line ≡ Done → AreNotOfLog run.words
    unlogged line (due l is_due) done = λ tess rules k u w form.
        refusal_undone l (unlogged_kind run.before.contents tess rules k u w (row_of below (call_of run lesson) (WriteLog tess rules k u w) form is_due)) done
    unlogged line (unread role fetches) done = absurd (cc done)
    unlogged line (unstored stores) done = absurd (cc done)

    -- the text of a log
    pub logged_row : (end : End) → Known run lesson end → IsWritten run end → IsTrue run.files_tell → ¬ AreNotOfLog run.words → run.status ≡ Done → TellsLog run lesson
    logged_row (Says line) known written told form done =
        let is = said_with line Done tt written.0 done in
        absurd (form (unlogged line (known.reached told) is.0))
    logged_row (Opens kinds a k) known written told form done =
        let serves = known.reached told in
        absurd (form (λ tess rules n u w log. absurd (cc (below.one_task run.words (WriteLog tess rules n u w) (RunSession serves.tess k serves.rules) log serves.form))))
    logged_row (Prints text) known written told form done = record { text = text; logs = known.reached told; written = text_whole text written.0 done }
    logged_row Lacks known written told form done = absurd (cc (written.0, done))

    logs_due : Logs (call_of run lesson) → (line : Line) → MaySay (call_of run lesson) line → EndsSo (status_of line)
    logs_due l line (due x is_due) = absurd (never_a_log below (call_of run lesson) x is_due l)
    logs_due l line (unread role fetches) = inr tt
    logs_due l line (unstored stores) = inr tt

    text_ends : (text : List ℕ) → PrintedSo text → EndsSo run.status
    text_ends text (printed is wrote) = inl is
    text_ends text (unprinted is part) = inr (between is tt)

    pub logs_row : (end : End) → Known run lesson end → IsWritten run end → IsTrue run.files_tell → Logs (call_of run lesson) → (run.status ≡ Done) ⊎ IsOutside run.status
    logs_row (Says line) known written told l = so_said line (logs_due l line (known.reached told)) written.0
    logs_row (Opens kinds a k) known written told l =
        let serves = known.reached told in
        absurd (cc (below.one_task run.words (WriteLog l.tess l.rules l.k l.u l.w) (RunSession serves.tess k serves.rules) l.form serves.form))
    logs_row (Prints text) known written told l = text_ends text written.0
    logs_row Lacks known written told l = inr (between written.0 tt)

    stored_done : (task : Task) (out : List ℕ) (kinds : List TileKind) (a : TreeAutomaton) → Ask run.words task → StoresAs task out → MakesFor run.before.contents lesson task kinds a
        → (line : Line) → Known run lesson (Says line) → IsTrue run.files_tell → status_of line ≡ Done → MaySay (call_of run lesson) line → run.after.contents out ≡ Some (rules_text a)
    stored_done task out kinds a ask named makes line known told done (due l is_due) =
        let same : l ≡ Accepted (length a.states) (length a.corners) = one_line below (call_of run lesson) l (Accepted (length a.states) (length a.corners)) is_due (accepted_due task kinds a ask makes) in
        known.stored told task out kinds a ask named makes (ap Says same)
    stored_done task out kinds a ask named makes line known told done (unread role fetches) = absurd (cc done)
    stored_done task out kinds a ask named makes line known told done (unstored stores) = absurd (cc done)

    stored_broken : (task : Task) (out : List ℕ) (kinds : List TileKind) (a : TreeAutomaton) → Ask run.words task → StoresAs task out → MakesFor run.before.contents lesson task kinds a
        → (line : Line) → Known run lesson (Says line) → IsTrue run.files_tell → BeginsLine run lesson line → MaySay (call_of run lesson) line → (run.after.contents out ≡ Some (rules_text a)) ⊎ BeginsFault run lesson
    stored_broken task out kinds a ask named makes line known told begins (due l is_due) =
        let same : l ≡ Accepted (length a.states) (length a.corners) = one_line below (call_of run lesson) l (Accepted (length a.states) (length a.corners)) is_due (accepted_due task kinds a ask makes) in
        inl (known.stored told task out kinds a ask named makes (ap Says same))
    stored_broken task out kinds a ask named makes line known told begins (unread role fetches) = inr (record { line = FileFault role; fault = inl (role, refl); begins = begins })
    stored_broken task out kinds a ask named makes line known told begins (unstored stores) = inr (record { line = StoreFault; fault = inr refl; begins = begins })

    -- the rules that are made were stored before their line was written
    pub stored_row : (end : End) → Known run lesson end → IsWritten run end → IsTrue run.files_tell → (task : Task) (out : List ℕ) (kinds : List TileKind) (a : TreeAutomaton)
        → Ask run.words task → StoresAs task out → MakesFor run.before.contents lesson task kinds a → StoresRules run lesson out a
    stored_row (Says line) known written told task out kinds a ask named makes = record {
      at_done = λ done. stored_done task out kinds a ask named makes line known told (said_with line Done tt written.0 done).0 (known.reached told);
      at_write_fault = λ broke. stored_broken task out kinds a ask named makes line known told (begun line known written.0 broke) (known.reached told);
    }
    stored_row (Opens ks b k) known written told task out kinds a ask named makes =
        absurd ((known.ready ks b k refl).0 (not_of_run below run.words task ask (to_make run.before.contents lesson task kinds a makes)))
    stored_row (Prints text) known written told task out kinds a ask named makes =
        absurd (subst (λ (t : Task). MakesFor run.before.contents lesson t kinds a) (logs_alone (known.reached told) task ask) makes)
    stored_row Lacks known written told task out kinds a ask named makes = record { at_done = λ done. absurd (cc (written.0, done)); at_write_fault = λ broke. absurd (cc (written.0, broke)) }

    making : (task : Task) → Ask run.words task → IsToMake task → {line : Line} → MaySay (call_of run lesson) line → status_of line ≡ Done → IsMaking task line
    making task ask make (due line is_due) done = making_line task make (row_of below (call_of run lesson) task ask is_due) done
    making task ask make (unread role fetches) done = absurd (cc done)
    making task ask make (unstored stores) done = absurd (cc done)

    pub made_so : (end : End) → Known run lesson end → IsWritten run end → IsTrue run.files_tell → (task : Task) → Ask run.words task → IsToMake task → run.status ≡ Done → TellsMade run lesson task
    made_so (Says line) known written told task ask make done =
        let is = said_with line Done tt written.0 done in
        let m = making task ask make (known.reached told) is.0 in
        record {
          kinds = m.kinds;
          automaton = m.automaton;
          makes = m.makes;
          written = subst (λ (l : Line). Writes run (text_of l)) m.is is.1;
          stored = λ file named. (stored_row (Says line) known written told task file m.kinds m.automaton ask named m.makes).at_done done;
        }
    made_so (Opens kinds a k) known written told task ask make done = absurd ((known.ready kinds a k refl).0 (not_of_run below run.words task ask make))
    made_so (Prints text) known written told task ask make done = absurd (subst IsToMake (logs_alone (known.reached told) task ask) make)
    made_so Lacks known written told task ask make done = absurd (cc (written.0, done))

    -- where two files can be merged no line is due but that of what is left
    module _ (m : MergesFiles (call_of run lesson)) where
      refused_too : (line : Line) → IsRules run.before.contents m.kinds m.rules (Refused line) → ⊥
      refused_too line refused =
          let same = one_rules below run.before.contents m.kinds m.rules refused (rules_loaded m.rules_bytes m.automaton m.holds_rules m.rules_spelling m.accepted) in
          absurd (cc same)

      merges_line : {line : Line} → MergeRow run.before.contents m.tess m.rules line → status_of line ≡ Done
      merges_line (merge_no_tess line is) = absurd (not_refused_too below run.before.contents m.tess (tess_loaded m.tess_bytes m.kinds m.holds_tess m.tess_spelling m.valid) is)
      merges_line (merge_no_rules kinds line is refused) =
          let same = one_loaded below run.before.contents m.tess is (tess_loaded m.tess_bytes m.kinds m.holds_tess m.tess_spelling m.valid) in
          absurd (refused_too line (subst (λ (ks : List TileKind). IsRules run.before.contents ks m.rules (Refused line)) same refused))
      merges_line (merge_accepted kinds a merges) = refl

      merges_due : (line : Line) → MaySay (call_of run lesson) line → EndsSo (status_of line)
      merges_due line (due l is_due) = inl (merges_line (row_of below (call_of run lesson) (MergeRules m.tess m.rules m.out) m.form is_due))
      merges_due line (unread role fetches) = inr tt
      merges_due line (unstored stores) = inr tt

      merges_so : (end : End) → Known run lesson end → IsWritten run end → IsTrue run.files_tell → EndsSo run.status
      merges_so (Says line) known written told = so_said line (merges_due line (known.reached told)) written.0
      merges_so (Opens kinds a k) known written told = absurd ((known.ready kinds a k refl).0 (not_of_run below run.words (MergeRules m.tess m.rules m.out) m.form tt))
      merges_so (Prints text) known written told = absurd (subst IsToMake (logs_alone (known.reached told) (MergeRules m.tess m.rules m.out) m.form) tt)
      merges_so Lacks known written told = inr (between written.0 tt)

    pub merges_row : (end : End) → Known run lesson end → IsWritten run end → IsTrue run.files_tell → MergesFiles (call_of run lesson) → (run.status ≡ Done) ⊎ IsOutside run.status
    merges_row end known written told m = merges_so m end known written told
