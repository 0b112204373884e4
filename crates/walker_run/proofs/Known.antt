-- From what the words came to to what is known of the run.
use Rattle.std.proofs.Common.{◌≡◌, ◌⊎◌, inl, inr, ℕ, IsTrue, List, Some, None, length, refl, ap, subst}
use Rattle.tile_model.specs.Tessellations.{TileKind}
use Rattle.tree_model.specs.Automata.{TreeAutomaton}
use Rattle.tree_model.specs.Conditions.{IsAccepted}
use Rattle.tess_text.specs.Spelling.{IsSpelling}
use Rattle.rules_file.specs.Spelling.{rules_text}
use Rattle.way_io.specs.Counts.{Rose}
use Rattle.way_io.specs.Contents.{KeepsAll}
use Rattle.call_words.specs.Tasks.{Task, TellType, CheckRules, RunSession, LearnRules, MergeRules, WriteLog, VerifyLog, Ask, HaveNoForm, AreNotOfRun, AreNotOfLog, IsOut}
use Rattle.walker_run.specs.declared.line.Role.{Role}
use Rattle.walker_run.specs.declared.line.Line.TheVariants.{Accepted, Usage, FileFault, Closed, GaveUp, StoreFault, InputTooLong}
use Rattle.walker_run.specs.Runs.{Call, Run, call_of}
use Rattle.tile_model.specs.Validity.{IsValid}
use Rattle.walker_run.specs.Held.{Outcome, Loaded, Refused, Lesson, IsTess, tess_too_long, tess_line, tess_kinds, tess_loaded, Holds, tess_limit}
use Rattle.walker_run.specs.Due.{Contents, no_form, by_task, Serves, StoresAs, Stores, MakesFor, IsToMake, WritesFor, LogsText, MaySay, due, unread, unstored}
use Rattle.walker_run.specs.Promise.{IsClosedIn, IsGivenUpIn}
use Rattle.walker_run.specs.Effects.{FilesSeen, End, Says, Opens, Prints, Lacks, ServesFor, FitsTask, fits_row, fits_unread, fits_unstored, fits_session, fits_text, fits_nothing, MayStoreAt, IsSession, IsToLog, IsCarriedOut, IsDecided, formless, wordless, carried_out}
use Rattle.walker_run.specs.Below.{LawsBelow}
use Rattle.walker_run.specs.Ending.{files_of, teacher_of}

-- what a call may come to
abbrev pub IsReached : Call → End → Type 0
IsReached call (Says line) = MaySay call line
IsReached call (Opens kinds a k) = Serves call kinds a k
IsReached call (Prints text) = LogsText call text
IsReached call Lacks = Unit {0}

-- what is known of a run that came to this end, if the teacher answers this
pub record Known (run : Run) (lesson : Lesson) (end : End) : Type 0 where
  pub reached : IsTrue run.files_tell → IsReached (call_of run lesson) end
  pub fetches : (role : Role) → end ≡ Says (FileFault role) → Rose run.before.failed_fetches run.after.failed_fetches
  pub unwritten : end ≡ Says StoreFault → Rose run.before.failed_stores run.after.failed_stores
  pub short : end ≡ Says InputTooLong → ⊥
  pub stores : ((file : List ℕ) → IsOut run.words file → ⊥) → run.after.failed_stores ≡ run.before.failed_stores
  pub others : IsTrue run.files_tell → (file : List ℕ) → (IsOut run.words file → ⊥) → run.after.contents file ≡ run.before.contents file
  pub kept : IsTrue run.files_tell → KeepsAll run.before.contents run.after.contents ⊎ (Stores (call_of run lesson) × MayStoreAt end)
  pub stored :
      IsTrue run.files_tell → (task : Task) (out : List ℕ) (kinds : List TileKind) (a : TreeAutomaton)
      → Ask run.words task → StoresAs task out → MakesFor run.before.contents lesson task kinds a
      → end ≡ Says (Accepted (length a.states) (length a.corners)) → run.after.contents out ≡ Some (rules_text a)
  pub closed : (n : ℕ) → end ≡ Says (Closed n) → IsClosedIn run n
  pub gave_up : (n : ℕ) → end ≡ Says (GaveUp n) → IsGivenUpIn run n
  pub ready : (kinds : List TileKind) (a : TreeAutomaton) (k : ℕ) → end ≡ Opens kinds a k → (¬ AreNotOfRun run.words) × IsAccepted kinds a
  pub logs : (text : List ℕ) → end ≡ Prints text → ¬ AreNotOfLog run.words
  pub formless : HaveNoForm run.words → (end ≡ Says Usage) ⊎ (end ≡ Lacks)

-- where a tessellation is loaded its file holds a spelling of it
pub record IsHeld (contents : Contents) (tess : List ℕ) (kinds : List TileKind) : Type 0 where
  pub bytes : List ℕ
  pub holds : Holds contents tess tess_limit bytes
  pub spelling : IsSpelling bytes kinds
  pub valid : IsValid kinds

module _ (contents : Contents) (tess : List ℕ) where
  abbrev pub IsSpelt : Outcome (List TileKind) → Type 0
  IsSpelt (Loaded kinds) = IsHeld contents tess kinds
  IsSpelt (Refused line) = Unit {0}

  pub held : {o : Outcome (List TileKind)} → IsTess contents tess o → IsSpelt o
  held (tess_too_long long) = tt
  held (tess_line bytes n holds bad) = tt
  held (tess_kinds bytes fault holds bad) = tt
  held (tess_loaded bytes kinds holds spelling valid) = record { bytes = bytes; holds = holds; spelling = spelling; valid = valid }

serves_for : (call : Call) (task : Task) (kinds : List TileKind) (a : TreeAutomaton) (k : ℕ) → Ask call.words task → ServesFor call.contents call.lesson task kinds a k → Serves call kinds a k
serves_for call (TellType tess n walk) kinds a k ask serves = absurd serves
serves_for call (CheckRules tess rules) kinds a k ask serves = absurd serves
serves_for call (LearnRules tess cells out) kinds a k ask serves = absurd serves
serves_for call (MergeRules tess rules out) kinds a k ask serves = absurd serves
serves_for call (WriteLog tess rules n u w) kinds a k ask serves = absurd serves
serves_for call (VerifyLog tess n u w log) kinds a k ask serves = absurd serves
serves_for call (RunSession tess n rules) kinds a k ask serves =
    let file = held call.contents tess serves.0 in
    subst (λ (m : ℕ). Serves call kinds a m) serves.3 (record {
      tess = tess;
      rules = rules;
      tess_bytes = file.bytes;
      form = ask;
      holds_tess = file.holds;
      tess_spelling = file.spelling;
      valid = file.valid;
      loaded = serves.1;
      is_kind = serves.2;
    })

writes_for : (call : Call) (task : Task) (text : List ℕ) → Ask call.words task → WritesFor call.contents task text → LogsText call text
writes_for call (TellType tess n walk) text ask writes = absurd writes
writes_for call (CheckRules tess rules) text ask writes = absurd writes
writes_for call (RunSession tess n rules) text ask writes = absurd writes
writes_for call (LearnRules tess cells out) text ask writes = absurd writes
writes_for call (MergeRules tess rules out) text ask writes = absurd writes
writes_for call (WriteLog tess rules n u w) text ask writes = record { tess = tess; rules = rules; k = n; u = u; w = w; form = ask; logs = writes }
writes_for call (VerifyLog tess n u w log) text ask writes = absurd writes

pub reached_by : (call : Call) (task : Task) → Ask call.words task → {end : End} → FitsTask call.contents call.lesson task end → IsReached call end
reached_by call task ask (fits_row line row) = due line (by_task task line ask row)
reached_by call task ask (fits_unread role fetches) = unread role (record { task = task; ask = ask; reached = fetches })
reached_by call task ask (fits_unstored stores) = unstored (record { task = task; ask = ask; reached = stores })
reached_by call task ask (fits_session kinds a k serves) = serves_for call task kinds a k ask serves
reached_by call task ask (fits_text text writes) = writes_for call task text ask writes
reached_by call task ask fits_nothing = tt

pub of_run : (words : List (List ℕ)) (task : Task) → Ask words task → IsSession task → ¬ AreNotOfRun words
of_run words (TellType tess k walk) ask session = absurd session
of_run words (CheckRules tess rules) ask session = absurd session
of_run words (RunSession tess k rules) ask session = λ none. none tess k rules ask
of_run words (LearnRules tess cells out) ask session = absurd session
of_run words (MergeRules tess rules out) ask session = absurd session
of_run words (WriteLog tess rules k u w) ask session = absurd session
of_run words (VerifyLog tess k u w log) ask session = absurd session

of_log : (words : List (List ℕ)) (task : Task) → Ask words task → IsToLog task → ¬ AreNotOfLog words
of_log words (TellType tess k walk) ask logs = absurd logs
of_log words (CheckRules tess rules) ask logs = absurd logs
of_log words (RunSession tess k rules) ask logs = absurd logs
of_log words (LearnRules tess cells out) ask logs = absurd logs
of_log words (MergeRules tess rules out) ask logs = absurd logs
of_log words (WriteLog tess rules k u w) ask logs = λ none. none tess rules k u w ask
of_log words (VerifyLog tess k u w log) ask logs = absurd logs

-- rules are made for a task that is to make rules
pub to_make : (contents : Contents) (lesson : Lesson) (task : Task) (kinds : List TileKind) (a : TreeAutomaton) → MakesFor contents lesson task kinds a → IsToMake task
to_make contents lesson (TellType tess k walk) kinds a makes = absurd makes
to_make contents lesson (CheckRules tess rules) kinds a makes = absurd makes
to_make contents lesson (RunSession tess k rules) kinds a makes = absurd makes
to_make contents lesson (LearnRules tess cells out) kinds a makes = tt
to_make contents lesson (MergeRules tess rules out) kinds a makes = tt
to_make contents lesson (WriteLog tess rules k u w) kinds a makes = absurd makes
to_make contents lesson (VerifyLog tess k u w log) kinds a makes = absurd makes

-- words that ask for such a task are not of the form `run`
pub not_of_run : LawsBelow → (words : List (List ℕ)) (task : Task) → Ask words task → IsToMake task → AreNotOfRun words
not_of_run below words (TellType tess k walk) ask make = absurd make
not_of_run below words (CheckRules tess rules) ask make = absurd make
not_of_run below words (RunSession tess k rules) ask make = absurd make
not_of_run below words (LearnRules tess cells out) ask make = λ tess' k rules form. absurd (cc (below.one_task words (LearnRules tess cells out) (RunSession tess' k rules) ask form))
not_of_run below words (MergeRules tess rules out) ask make = λ tess' k rules' form. absurd (cc (below.one_task words (MergeRules tess rules out) (RunSession tess' k rules') ask form))
not_of_run below words (WriteLog tess rules k u w) ask make = absurd make
not_of_run below words (VerifyLog tess k u w log) ask make = absurd make

-- and neither are words of the form `log`
pub log_no_run : LawsBelow → (call : Call) {text : List ℕ} → LogsText call text → AreNotOfRun call.words
log_no_run below call l = λ tess' k rules' form. absurd (cc (below.one_task call.words (WriteLog l.tess l.rules l.k l.u l.w) (RunSession tess' k rules') l.form form))

pub stores_no_run : LawsBelow → (call : Call) → Stores call → AreNotOfRun call.words
stores_no_run below call stores =
    not_of_run below call.words stores.task stores.ask (to_make call.contents call.lesson stores.task stores.reached.kinds stores.reached.automaton stores.reached.makes)

module _ (run : Run) where
  abbrev Decided : End → Type 0
  Decided end = IsDecided run.files_tell run.words (files_of run.before) (files_of run.after) (teacher_of run.before) (teacher_of run.after) end

  abbrev Carried : Task → End → Type 0
  Carried task end = IsCarriedOut run.files_tell (files_of run.before) (files_of run.after) (teacher_of run.before) (teacher_of run.after) task end

  same_files : files_of run.after ≡ files_of run.before → (file : List ℕ) → run.after.contents file ≡ run.before.contents file
  same_files same file = λ i. (same i).contents file

  module _ (below : LawsBelow) where
    stored_by : (task : Task) (end : End) → Ask run.words task → (c : Carried task end) → IsTrue run.files_tell → (asked : Task) (out : List ℕ) (kinds : List TileKind) (a : TreeAutomaton)
        → Ask run.words asked → StoresAs asked out → MakesFor run.before.contents c.lesson asked kinds a
        → end ≡ Says (Accepted (length a.states) (length a.corners)) → run.after.contents out ≡ Some (rules_text a)
    stored_by task end ask c told asked out kinds a form named makes is =
        let same : asked ≡ task = below.one_task run.words asked task form ask in
        c.stored told out kinds a (subst (λ (t : Task). StoresAs t out) same named) (subst (λ (t : Task). MakesFor run.before.contents c.lesson t kinds a) same makes) is

    of_task : (task : Task) (end : End) → Ask run.words task → (c : Carried task end) → Known run c.lesson end
    of_task task end ask c = record {
      reached = λ told. reached_by (call_of run c.lesson) task ask (c.due told);
      fetches = c.fetches;
      unwritten = c.unstored;
      short = c.short;
      stores = λ none. c.stores (λ file named. none file (record { task = task; ask = ask; named = named }));
      others = λ told file other. c.others told file (λ named. other (record { task = task; ask = ask; named = named }));
      kept = λ told. elim (c.kept told) [
        | inl same ↦ inl same
        | inr stored ↦ inr (record { task = task; ask = ask; reached = stored.0 }, stored.1)
      ];
      stored = stored_by task end ask c;
      closed = λ n is. record { task = task; ask = ask; closed = c.closed n is };
      gave_up = λ n is. record { task = task; ask = ask; given_up = c.gave_up n is };
      ready = λ kinds a k is. let known = c.ready kinds a k is in (of_run run.words task ask known.0, known.2);
      logs = λ text is. of_log run.words task ask (c.logs text is);
      formless = λ none. absurd (none task ask);
    }

    pub known : {end : End} → Decided end → (lesson : Lesson) × Known run lesson end
    known (formless none same) = (
      None,
      record {
        reached = λ told. due Usage (no_form none);
        fetches = λ role is. absurd (cc is);
        unwritten = λ is. absurd (cc is);
        short = λ is. absurd (cc is);
        stores = λ file. ap (λ (x : FilesSeen). x.failed_stores) same;
        others = λ told file other. same_files same file;
        kept = λ told. inl (same_files same);
        stored = λ told task out kinds a ask named makes is. absurd (none task ask);
        closed = λ n is. absurd (cc is);
        gave_up = λ n is. absurd (cc is);
        ready = λ kinds a k is. absurd (cc is);
        logs = λ text is. absurd (cc is);
        formless = λ none'. inl refl;
      },
    )
    known (wordless same) = (
      None,
      record {
        reached = λ told. tt;
        fetches = λ role is. absurd (cc is);
        unwritten = λ is. absurd (cc is);
        short = λ is. absurd (cc is);
        stores = λ file. ap (λ (x : FilesSeen). x.failed_stores) same;
        others = λ told file other. same_files same file;
        kept = λ told. inl (same_files same);
        stored = λ told task out kinds a ask named makes is. absurd (cc is);
        closed = λ n is. absurd (cc is);
        gave_up = λ n is. absurd (cc is);
        ready = λ kinds a k is. absurd (cc is);
        logs = λ text is. absurd (cc is);
        formless = λ none'. inr refl;
      },
    )
    known (carried_out task end ask c) = (c.lesson, of_task task end ask c)
