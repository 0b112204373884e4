-- Logs that are made and verified, by the ends that they come to.
use Rattle.std.proofs.Common.{◌≡◌, ◌<◌, ◌⊎◌, inl, inr, ℕ, Bool, IsTrue, List, Some, None, Result, Ok, Err, length, sym, subst}
use Rattle.std.specs.Prelude.{IsErrAnd}
use Rattle.tile_model.specs.declared.Letter.{Letter}
use Rattle.tile_model.specs.Tessellations.{TileKind}
use Rattle.tile_model.specs.Relation.{Change}
use Rattle.tree_model.specs.Automata.{TreeAutomaton}
use Rattle.log_model.specs.LogTexts.{log_text}
use Rattle.call_words.specs.Tasks.{Task, WriteLog, VerifyLog}
use Rattle.walker_run.specs.declared.line.Line.{Line}
use Rattle.walker_run.specs.declared.line.Line.TheVariants.{FileFault, Related, Apart, TooDeep, LogChange, LogEnd}
use Rattle.walker_run.specs.declared.line.Role.TheVariants.{Log}
use Rattle.walker_run.specs.declared.stop.Stop.{Stop}
use Rattle.walker_run.specs.declared.stop.Stop.TheVariants.{Memory}
use Rattle.walker_run.specs.declared.tasks.Work.{Work}
use Rattle.walker_run.specs.Held.{Loaded, Lesson, IsTess, IsRules, IsLog}
use Rattle.walker_run.specs.Due.{Contents, Row, FetchesFor, kind_there, log_too_deep, log_apart, IsVerdict, log_leads, log_refused, log_ends, verify_log}
use Rattle.walker_run.specs.Effects.{FilesSeen, TeacherSeen, OnlyFetches, End, Says, end_of, FitsTask, fits_row, fits_unread, IsLogged, logged, logged_apart, logged_deep, logged_nothing, IsVerified, verified, verified_nothing, IsCarriedOut}
use Rattle.walker_run.proofs.Steps.{still}
use Rattle.walker_run.proofs.Carrying.{says_plainly, prints, lacks}

-- no memory for the text of a log
pub unprinted_for : (kinds : List TileKind) (k : ℕ) (u w : List Letter) (result : Result Work Stop) → IsErrAnd result (λ y. y ≡ Memory) → IsLogged kinds k u w (end_of result)
unprinted_for kinds k u w (Ok work) gives = absurd gives
unprinted_for kinds k u w (Err y) gives = subst (λ (s : Stop). IsLogged kinds k u w (end_of (Err s))) (sym gives) logged_nothing

-- what refuses a log file fits the rows of a task
pub log_fits : (contents : Contents) (lesson : Lesson) (task : Task) (line : Line) → (IsRefusing : Line → Type 0) → FetchesFor contents task Log → ((l : Line) → IsRefusing l → Row contents lesson task l)
    → (line ≡ FileFault Log) ⊎ IsRefusing line → FitsTask contents lesson task (Says line)
log_fits contents lesson task line IsRefusing fetches row (inl is) = subst (λ (l : Line). FitsTask contents lesson task (Says l)) (sym is) (fits_unread Log fetches)
log_fits contents lesson task line IsRefusing fetches row (inr is) = fits_row line (row line is)

module _ (tells : Bool) (before after : FilesSeen) (asked answered : TeacherSeen) (tess : List ℕ) (k : ℕ) (u w : List Letter) (kinds : List TileKind) (f : OnlyFetches tells before after None) (loaded : IsTrue tells → IsTess before.contents tess (Loaded kinds)) (lt : k < length kinds) where
  pub logged_so : (rules : List ℕ) (a : TreeAutomaton) → (IsTrue tells → IsRules before.contents kinds rules (Loaded a)) → {end : End} → IsLogged kinds k u w end
      → IsCarriedOut tells before after asked answered (WriteLog tess rules k u w) end
  logged_so rules a read (logged log near texts leads) =
      prints tells before after asked answered (WriteLog tess rules k u w) (log_text log) f
      (λ told. record { kinds = kinds; log = log; ready = record { automaton = a; loaded = loaded told; is_kind = lt; read = read told; near = near }; have_text = texts; leads = leads; is = λ i. log_text log }) tt
  logged_so rules a read (logged_apart near apart) =
      says_plainly tells before after asked answered (WriteLog tess rules k u w) Apart (still tells before after Apart tt (λ role is. absurd (cc is)) f)
      (λ told. fits_row Apart (kind_there kinds Apart (loaded told) lt (log_apart a (read told) near apart)))
      (λ told ks b makes same. makes)
  logged_so rules a read (logged_deep far) =
      says_plainly tells before after asked answered (WriteLog tess rules k u w) TooDeep (still tells before after TooDeep tt (λ role is. absurd (cc is)) f)
      (λ told. fits_row TooDeep (kind_there kinds TooDeep (loaded told) lt (log_too_deep a (read told) far)))
      (λ told ks b makes same. makes)
  logged_so rules a read logged_nothing = lacks tells before after asked answered (WriteLog tess rules k u w) f

  -- a verdict is said plainly
  verdict_still : (log : List Change) {line : Line} → IsVerdict kinds k u w log line → OnlyFetches tells before after (Some line)
  verdict_still log (log_leads leads) = still tells before after Related tt (λ role is. absurd (cc is)) f
  verdict_still log (log_refused n refused) = still tells before after (LogChange n) tt (λ role is. absurd (cc is)) f
  verdict_still log (log_ends elsewhere) = still tells before after LogEnd tt (λ role is. absurd (cc is)) f

  pub verified_so : (file : List ℕ) (log : List Change) → (IsTrue tells → IsLog before.contents file (Loaded log)) → {end : End} → IsVerified kinds k u w log end
      → IsCarriedOut tells before after asked answered (VerifyLog tess k u w file) end
  verified_so file log read (verified line verdict) =
      says_plainly tells before after asked answered (VerifyLog tess k u w file) line (verdict_still log verdict)
      (λ told. fits_row line (kind_there kinds line (loaded told) lt (verify_log log line (read told) verdict)))
      (λ told ks b makes same. makes)
  verified_so file log read verified_nothing = lacks tells before after asked answered (VerifyLog tess k u w file) f
