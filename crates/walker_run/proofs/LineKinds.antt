-- Lines by what leads to them: work that is done, a refusal, or a fault.
use Rattle.std.proofs.Common.{◌≡◌, ℕ, List, refl, sym, subst}
use Rattle.tile_model.specs.declared.Letter.{Letter}
use Rattle.tile_model.specs.Tessellations.{TileKind}
use Rattle.tile_model.specs.Relation.{Change}
use Rattle.tree_model.specs.Automata.{TreeAutomaton}
use Rattle.call_words.specs.Tasks.{Task, TellType, CheckRules, RunSession, LearnRules, MergeRules, WriteLog, VerifyLog, RulesFrom, FromFile, FromTeacher}
use Rattle.walker_run.specs.declared.status.Status.{Status}
use Rattle.walker_run.specs.declared.status.Status.TheVariants.{Done, FileFault as FileFaultStatus, StoreFault as StoreFaultStatus, Memory, ReadFault, WriteFault, InputTooLong as InputTooLongStatus}
use Rattle.walker_run.specs.declared.line.Line.{Line}
use Rattle.walker_run.specs.declared.line.Line.TheVariants.{TypeTold, Accepted, Usage, FileFault, FileTooLong, TessLine, TessKinds, RulesSyntax, RulesShape, Broken, Spherical, Closed, GaveUp, StoreFault, InputTooLong, Related, Apart, TooDeep, LogLine, LogChange, LogEnd}
use Rattle.walker_run.specs.Lines.{status_of}
use Rattle.walker_run.specs.Runs.{Call}
use Rattle.walker_run.specs.Held.{Outcome, Loaded, Refused, Lesson, IsTess, tess_too_long, tess_line, tess_kinds, tess_loaded, IsRules, rules_too_long, rules_syntax, rules_shape, rules_broken, rules_loaded, IsLog, log_too_long, log_line, log_loaded, MayRefuse, MayTeach, IsMade, made_spherical, made_rules, made_taught, RulesOf}
use Rattle.walker_run.specs.Due.{Contents, TypeRow, type_no_tess, type_no_kind, type_told, CheckRow, check_no_tess, check_no_rules, check_accepted, SessionRow, session_no_tess, session_no_kind, session_no_rules, MergeRow, merge_no_tess, merge_no_rules, merge_accepted, KindRow, kind_no_tess, kind_not_there, kind_there, LogRow, log_no_rules, log_too_deep, log_apart, IsVerdict, log_leads, log_refused, log_ends, VerifyRow, verify_no_log, verify_log, Row, IsDue, no_form, by_task}

pub data LineKind : Type 0 where
  OfWork : LineKind
  OfRefusal : LineKind
  OfFault : LineKind

abbrev pub kind_of : Line → LineKind
kind_of (TypeTold d) = OfWork
kind_of (Accepted states corners) = OfWork
kind_of Usage = OfRefusal
kind_of (FileFault role) = OfFault
kind_of (FileTooLong role) = OfRefusal
kind_of (TessLine n) = OfRefusal
kind_of (TessKinds fault) = OfRefusal
kind_of RulesSyntax = OfRefusal
kind_of (RulesShape part index) = OfRefusal
kind_of (Broken at) = OfRefusal
kind_of (Spherical p q) = OfRefusal
kind_of (Closed n) = OfRefusal
kind_of (GaveUp n) = OfRefusal
kind_of StoreFault = OfFault
kind_of InputTooLong = OfFault
kind_of Related = OfWork
kind_of Apart = OfRefusal
kind_of TooDeep = OfRefusal
kind_of (LogLine n) = OfRefusal
kind_of (LogChange n) = OfRefusal
kind_of LogEnd = OfRefusal

-- the statuses of each
abbrev IsRefusedWith : Status → Type 0
IsRefusedWith Done = ⊥
IsRefusedWith FileFaultStatus = ⊥
IsRefusedWith StoreFaultStatus = ⊥
IsRefusedWith InputTooLongStatus = ⊥
IsRefusedWith Memory = ⊥
IsRefusedWith ReadFault = ⊥
IsRefusedWith WriteFault = ⊥
IsRefusedWith _ = Unit {0}

abbrev IsStatusOf : LineKind → Status → Type 0
IsStatusOf OfWork status = status ≡ Done
IsStatusOf OfRefusal status = IsRefusedWith status
IsStatusOf OfFault status = Unit {0}

by_kind : (line : Line) → IsStatusOf (kind_of line) (status_of line)
by_kind (TypeTold d) = refl
by_kind (Accepted states corners) = refl
by_kind Usage = tt
by_kind (FileFault role) = tt
by_kind (FileTooLong role) = tt
by_kind (TessLine n) = tt
by_kind (TessKinds fault) = tt
by_kind RulesSyntax = tt
by_kind (RulesShape part index) = tt
by_kind (Broken at) = tt
by_kind (Spherical p q) = tt
by_kind (Closed n) = tt
by_kind (GaveUp n) = tt
by_kind StoreFault = tt
by_kind InputTooLong = tt
by_kind Related = refl
by_kind Apart = tt
by_kind TooDeep = tt
by_kind (LogLine n) = tt
by_kind (LogChange n) = tt
by_kind LogEnd = tt

-- no refusal has the status Done
pub refusal_undone : (line : Line) → kind_of line ≡ OfRefusal → status_of line ≡ Done → ⊥
refusal_undone line is done = subst IsRefusedWith done (subst (λ (k : LineKind). IsStatusOf k (status_of line)) is (by_kind line))

-- of work that is done the status is Done
pub work_done : (line : Line) → kind_of line ≡ OfWork → status_of line ≡ Done
work_done line is = subst (λ (k : LineKind). IsStatusOf k (status_of line)) is (by_kind line)

may_kind : (kinds : List TileKind) (cells : ℕ) (line : Line) → MayRefuse kinds cells line → kind_of line ≡ OfRefusal
may_kind kinds cells (TypeTold d) may = absurd may
may_kind kinds cells (Accepted states corners) may = absurd may
may_kind kinds cells Usage may = refl
may_kind kinds cells (FileFault role) may = absurd may
may_kind kinds cells (FileTooLong role) may = refl
may_kind kinds cells (TessLine n) may = refl
may_kind kinds cells (TessKinds fault) may = refl
may_kind kinds cells RulesSyntax may = refl
may_kind kinds cells (RulesShape part index) may = refl
may_kind kinds cells (Broken at) may = refl
may_kind kinds cells (Spherical p q) may = refl
may_kind kinds cells (Closed n) may = refl
may_kind kinds cells (GaveUp n) may = refl
may_kind kinds cells StoreFault may = absurd may
may_kind kinds cells InputTooLong may = absurd may
may_kind kinds cells Related may = absurd may
may_kind kinds cells Apart may = refl
may_kind kinds cells TooDeep may = refl
may_kind kinds cells (LogLine n) may = refl
may_kind kinds cells (LogChange n) may = refl
may_kind kinds cells LogEnd may = refl

-- what is refused is refused by such a line
abbrev IsRefusedOrNot : {A : Type 0} → Outcome A → Type 0
IsRefusedOrNot (Loaded x) = Unit {0}
IsRefusedOrNot (Refused line) = kind_of line ≡ OfRefusal

tess_refuses : (contents : Contents) (file : List ℕ) {o : Outcome (List TileKind)} → IsTess contents file o → IsRefusedOrNot o
tess_refuses contents file (tess_too_long long) = refl
tess_refuses contents file (tess_line bytes n holds bad) = refl
tess_refuses contents file (tess_kinds bytes fault holds bad) = refl
tess_refuses contents file (tess_loaded bytes kinds holds spelling valid) = tt

pub tess_kind : (contents : Contents) (file : List ℕ) (line : Line) → IsTess contents file (Refused line) → kind_of line ≡ OfRefusal
tess_kind contents file line is = tess_refuses contents file is

rules_refuses : (contents : Contents) (kinds : List TileKind) (file : List ℕ) {o : Outcome TreeAutomaton} → IsRules contents kinds file o → IsRefusedOrNot o
rules_refuses contents kinds file (rules_too_long long) = refl
rules_refuses contents kinds file (rules_syntax bytes holds none) = refl
rules_refuses contents kinds file (rules_shape bytes d part index holds text fault) = refl
rules_refuses contents kinds file (rules_broken bytes a n first second holds spelt broken) = refl
rules_refuses contents kinds file (rules_loaded bytes a holds spelt accepted) = tt

pub rules_kind : (contents : Contents) (kinds : List TileKind) (file : List ℕ) (line : Line) → IsRules contents kinds file (Refused line) → kind_of line ≡ OfRefusal
rules_kind contents kinds file line is = rules_refuses contents kinds file is

taught_refuses : (kinds : List TileKind) (cells : ℕ) (o : Outcome TreeAutomaton) → MayTeach kinds cells o → IsRefusedOrNot o
taught_refuses kinds cells (Loaded a) may = tt
taught_refuses kinds cells (Refused line) may = may_kind kinds cells line may

made_refuses : (lesson : Lesson) (kinds : List TileKind) (cells : ℕ) {o : Outcome TreeAutomaton} → IsMade lesson kinds cells o → IsRefusedOrNot o
made_refuses lesson kinds cells (made_spherical regular low) = refl
made_refuses lesson kinds cells (made_rules regular infinite) = tt
made_refuses lesson kinds cells (made_taught outcome irregular told may) = taught_refuses kinds cells outcome may

pub made_kind : (lesson : Lesson) (kinds : List TileKind) (cells : ℕ) (line : Line) → IsMade lesson kinds cells (Refused line) → kind_of line ≡ OfRefusal
made_kind lesson kinds cells line made = made_refuses lesson kinds cells made

rules_of_kind : (contents : Contents) (lesson : Lesson) (kinds : List TileKind) (rules : RulesFrom) (line : Line) → RulesOf contents lesson kinds rules (Refused line) → kind_of line ≡ OfRefusal
rules_of_kind contents lesson kinds (FromFile file) line is = rules_kind contents kinds file line is
rules_of_kind contents lesson kinds (FromTeacher cells) line is = made_kind lesson kinds cells line is

-- the rows say what is done, or refuse
abbrev IsAnswer : LineKind → Type 0
IsAnswer OfWork = Unit {0}
IsAnswer OfRefusal = Unit {0}
IsAnswer OfFault = ⊥

answers : (line : Line) → kind_of line ≡ OfRefusal → IsAnswer (kind_of line)
answers line is = subst IsAnswer (sym is) tt

type_kind : (contents : Contents) (tess : List ℕ) (k : ℕ) (walk : List Letter) {line : Line} → TypeRow contents tess k walk line → IsAnswer (kind_of line)
type_kind contents tess k walk (type_no_tess line is) = answers line (tess_kind contents tess line is)
type_kind contents tess k walk (type_no_kind kinds is few) = tt
type_kind contents tess k walk (type_told kinds is lt) = tt

check_kind : (contents : Contents) (lesson : Lesson) (tess : List ℕ) (rules : RulesFrom) {line : Line} → CheckRow contents lesson tess rules line → IsAnswer (kind_of line)
check_kind contents lesson tess rules (check_no_tess line is) = answers line (tess_kind contents tess line is)
check_kind contents lesson tess rules (check_no_rules kinds line is refused) = answers line (rules_of_kind contents lesson kinds rules line refused)
check_kind contents lesson tess rules (check_accepted kinds a is loaded) = tt

-- where no walkers are served, words of the form `run` are refused
pub session_kind : (contents : Contents) (lesson : Lesson) (tess : List ℕ) (k : ℕ) (rules : RulesFrom) {line : Line} → SessionRow contents lesson tess k rules line → kind_of line ≡ OfRefusal
session_kind contents lesson tess k rules (session_no_tess line is) = tess_kind contents tess line is
session_kind contents lesson tess k rules (session_no_kind kinds is few) = refl
session_kind contents lesson tess k rules (session_no_rules kinds line is lt refused) = rules_of_kind contents lesson kinds rules line refused

merge_kind : (contents : Contents) (tess rules : List ℕ) {line : Line} → MergeRow contents tess rules line → IsAnswer (kind_of line)
merge_kind contents tess rules (merge_no_tess line is) = answers line (tess_kind contents tess line is)
merge_kind contents tess rules (merge_no_rules kinds line is refused) = answers line (rules_kind contents kinds rules line refused)
merge_kind contents tess rules (merge_accepted kinds a merges) = tt

log_refuses : (contents : Contents) (file : List ℕ) {o : Outcome (List Change)} → IsLog contents file o → IsRefusedOrNot o
log_refuses contents file (log_too_long long) = refl
log_refuses contents file (log_line bytes n holds bad) = refl
log_refuses contents file (log_loaded bytes log holds texts is) = tt

log_kind : (contents : Contents) (file : List ℕ) (line : Line) → IsLog contents file (Refused line) → kind_of line ≡ OfRefusal
log_kind contents file line is = log_refuses contents file is

-- what holds of refusals and of what stands behind a kind holds of the rows of a form that names one
of_kind : (P : LineKind → Type 0) → P OfRefusal → (contents : Contents) (tess : List ℕ) (k : ℕ) (Next : List TileKind → Line → Type 0) → ((kinds : List TileKind) (line : Line) → Next kinds line → P (kind_of line)) → {line : Line} → KindRow contents tess k Next line → P (kind_of line)
of_kind P holds contents tess k Next next (kind_no_tess line is) = subst P (sym (tess_kind contents tess line is)) holds
of_kind P holds contents tess k Next next (kind_not_there kinds is few) = holds
of_kind P holds contents tess k Next next (kind_there kinds line is lt row) = next kinds line row

logged_kind : (contents : Contents) (rules : List ℕ) (k : ℕ) (u w : List Letter) (kinds : List TileKind) {line : Line} → LogRow contents rules k u w kinds line → kind_of line ≡ OfRefusal
logged_kind contents rules k u w kinds (log_no_rules line refused) = rules_kind contents kinds rules line refused
logged_kind contents rules k u w kinds (log_too_deep a loaded far) = refl
logged_kind contents rules k u w kinds (log_apart a loaded near apart) = refl

-- where no log is written, words of the form `log` are refused
pub unlogged_kind : (contents : Contents) (tess rules : List ℕ) (k : ℕ) (u w : List Letter) {line : Line} → KindRow contents tess k (LogRow contents rules k u w) line → kind_of line ≡ OfRefusal
unlogged_kind contents tess rules k u w row =
    of_kind (λ (x : LineKind). x ≡ OfRefusal) refl contents tess k (LogRow contents rules k u w) (λ kinds line next. logged_kind contents rules k u w kinds next) row

verdict_kind : (kinds : List TileKind) (k : ℕ) (u w : List Letter) (log : List Change) {line : Line} → IsVerdict kinds k u w log line → IsAnswer (kind_of line)
verdict_kind kinds k u w log (log_leads leads) = tt
verdict_kind kinds k u w log (log_refused n refused) = tt
verdict_kind kinds k u w log (log_ends elsewhere) = tt

verified_kind : (contents : Contents) (k : ℕ) (u w : List Letter) (file : List ℕ) (kinds : List TileKind) {line : Line} → VerifyRow contents k u w file kinds line → IsAnswer (kind_of line)
verified_kind contents k u w file kinds (verify_no_log line refused) = answers line (log_kind contents file line refused)
verified_kind contents k u w file kinds (verify_log log line loaded verdict) = verdict_kind kinds k u w log verdict

row_kind : (contents : Contents) (lesson : Lesson) (task : Task) (line : Line) → Row contents lesson task line → IsAnswer (kind_of line)
row_kind contents lesson (TellType tess k walk) line row = type_kind contents tess k walk row
row_kind contents lesson (CheckRules tess rules) line row = check_kind contents lesson tess (FromFile rules) row
row_kind contents lesson (RunSession tess k rules) line row = answers line (session_kind contents lesson tess k rules row)
row_kind contents lesson (LearnRules tess cells out) line row = check_kind contents lesson tess (FromTeacher cells) row
row_kind contents lesson (MergeRules tess rules out) line row = merge_kind contents tess rules row
row_kind contents lesson (WriteLog tess rules k u w) line row = answers line (unlogged_kind contents tess rules k u w row)
row_kind contents lesson (VerifyLog tess k u w log) line row =
    of_kind IsAnswer tt contents tess k (VerifyRow contents k u w log) (λ kinds l next. verified_kind contents k u w log kinds next) row

-- no line that is due tells of a fault
pub due_no_fault : (call : Call) {line : Line} → IsDue call line → kind_of line ≡ OfFault → ⊥
due_no_fault call (no_form none) is = absurd (cc is)
due_no_fault call (by_task task line ask row) is = subst IsAnswer is (row_kind call.contents call.lesson task line row)

-- what a check or a learner says that is done, is the numbers of rules
pub done_accepted : (contents : Contents) (lesson : Lesson) (tess : List ℕ) (rules : RulesFrom) (kinds : List TileKind) (line : Line) → RulesOf contents lesson kinds rules (Refused line) → status_of line ≡ Done → ⊥
done_accepted contents lesson tess rules kinds line refused = refusal_undone line (rules_of_kind contents lesson kinds rules line refused)
