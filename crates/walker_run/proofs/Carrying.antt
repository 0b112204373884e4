-- Tasks that are carried out, by the ends that they come to.
use Rattle.std.proofs.Common.{◌≡◌, ◌<◌, ◌≤◌, ◌⊎◌, inl, inr, ℕ, Bool, IsTrue, List, Some, None, Result, Ok, Err, length, refl, sym, ap, subst}
use Rattle.std.specs.Prelude.{IsErrAnd}
use Rattle.tile_model.specs.Tessellations.{TileKind}
use Rattle.tree_model.specs.Automata.{TreeAutomaton}
use Rattle.tree_model.specs.Conditions.{IsAccepted}
use Rattle.call_words.specs.Tasks.{Task, RunSession, RulesFrom, FromFile, FromTeacher, TeachesFor}
use Rattle.walker_run.specs.declared.line.Line.{Line}
use Rattle.walker_run.specs.declared.line.Line.TheVariants.{Accepted, Usage, FileFault, Closed, GaveUp, StoreFault, InputTooLong}
use Rattle.walker_run.specs.declared.line.Role.TheVariants.{Tess, Rules}
use Rattle.walker_run.specs.declared.stop.Stop.{Stop}
use Rattle.walker_run.specs.declared.stop.Stop.TheVariants.{Say, Memory}
use Rattle.walker_run.specs.declared.tasks.Work.{Work}
use Rattle.walker_run.specs.Due.{Contents, Row, FetchesFor, WritesFor, MakesFor}
use Rattle.walker_run.specs.Held.{Loaded, Refused, Lesson, IsTess, IsMade}
use Rattle.walker_run.proofs.LineKinds.{kind_of, made_kind}
use Rattle.walker_run.specs.Outcome.{HasGivenUpOn, AsksOf}
use Rattle.walker_run.specs.Effects.{FilesSeen, TeacherSeen, OnlyFetches, IsPlain, IsRefusedBy, Says, Opens, Prints, Lacks, end_of, line_of, lesson_of, IsNoKind, ServesFor, FitsTask, fits_row, fits_unread, fits_session, fits_text, fits_nothing, IsSession, IsToLog, IsCarriedOut}

module _ (tells : Bool) (before after : FilesSeen) (asked answered : TeacherSeen) (task : Task) where
  -- a line to which the files led
  pub says_plainly : (line : Line) → OnlyFetches tells before after (Some line)
      → (IsTrue tells → FitsTask before.contents None task (Says line))
      → (IsTrue tells → (kinds : List TileKind) (a : TreeAutomaton) → MakesFor before.contents None task kinds a → line ≡ Accepted (length a.states) (length a.corners) → ⊥)
      → IsCarriedOut tells before after asked answered task (Says line)
  says_plainly line f due never = record {
    lesson = None;
    due = due;
    fetches = λ role is. let same : line ≡ FileFault role = cc is in f.counted role (ap (λ (l : Line). Some l) same);
    unstored = λ is. let same : line ≡ StoreFault = cc is in absurd (subst IsPlain same (f.plain line refl));
    short = λ is. let same : line ≡ InputTooLong = cc is in absurd (subst IsPlain same (f.plain line refl));
    stores = λ none. f.stores;
    others = λ told file other. f.same told file;
    kept = λ told. inl (f.same told);
    stored = λ told file kinds a named makes is. let same : line ≡ Accepted (length a.states) (length a.corners) = cc is in absurd (never told kinds a makes same);
    closed = λ n is. let same : line ≡ Closed n = cc is in absurd (subst IsPlain same (f.plain line refl));
    gave_up = λ n is. let same : line ≡ GaveUp n = cc is in absurd (subst IsPlain same (f.plain line refl));
    ready = λ kinds a k is. absurd (cc is);
    logs = λ text is. absurd (cc is);
  }

  -- the same of a line that is equal
  pub says_as : (line other : Line) → line ≡ other → IsCarriedOut tells before after asked answered task (Says other) → IsCarriedOut tells before after asked answered task (Says line)
  says_as line other same = subst (λ (l : Line). IsCarriedOut tells before after asked answered task (Says l)) (sym same)

  -- want of memory, before anything is stored
  pub lacks : OnlyFetches tells before after None → IsCarriedOut tells before after asked answered task Lacks
  lacks f = record {
    lesson = None;
    due = λ told. fits_nothing;
    fetches = λ role is. absurd (cc is);
    unstored = λ is. absurd (cc is);
    short = λ is. absurd (cc is);
    stores = λ none. f.stores;
    others = λ told file other. f.same told file;
    kept = λ told. inl (f.same told);
    stored = λ told file kinds a named makes is. absurd (cc is);
    closed = λ n is. absurd (cc is);
    gave_up = λ n is. absurd (cc is);
    ready = λ kinds a k is. absurd (cc is);
    logs = λ text is. absurd (cc is);
  }

  pub lacked : (result : Result Work Stop) → IsErrAnd result (λ y. y ≡ Memory) → OnlyFetches tells before after None → IsCarriedOut tells before after asked answered task (end_of result)
  lacked (Ok work) gives f = absurd gives
  lacked (Err y) gives f = subst (λ (s : Stop). IsCarriedOut tells before after asked answered task (end_of (Err s))) (sym gives) (lacks f)

  -- a step that stopped while it fetched
  stops : (A : Type 0) (stop : Stop) → OnlyFetches tells before after (line_of {A = A} (Err stop))
      → ((line : Line) → stop ≡ Say line → IsTrue tells → FitsTask before.contents None task (Says line))
      → ((line : Line) → stop ≡ Say line → IsTrue tells → (kinds : List TileKind) (a : TreeAutomaton) → MakesFor before.contents None task kinds a → line ≡ Accepted (length a.states) (length a.corners) → ⊥)
      → IsCarriedOut tells before after asked answered task (end_of (Err stop))
  stops A (Say line) f due never = says_plainly line f (due line refl) (never line refl)
  stops A Memory f due never = lacks f

  pub stopped : (A : Type 0) (result : Result Work Stop) (stop : Stop) → IsErrAnd result (λ y. y ≡ stop) → OnlyFetches tells before after (line_of {A = A} (Err stop))
      → ((line : Line) → stop ≡ Say line → IsTrue tells → FitsTask before.contents None task (Says line))
      → ((line : Line) → stop ≡ Say line → IsTrue tells → (kinds : List TileKind) (a : TreeAutomaton) → MakesFor before.contents None task kinds a → line ≡ Accepted (length a.states) (length a.corners) → ⊥)
      → IsCarriedOut tells before after asked answered task (end_of result)
  stopped A (Ok work) stop gives f due never = absurd gives
  stopped A (Err y) stop gives f due never = subst (λ (s : Stop). IsCarriedOut tells before after asked answered task (end_of (Err s))) (sym gives) (stops A stop f due never)

  -- walkers are served
  pub opens : (lesson : Lesson) (kinds : List TileKind) (a : TreeAutomaton) (k : ℕ) → OnlyFetches tells before after None
      → (IsTrue tells → ServesFor before.contents lesson task kinds a k)
      → IsSession task → k < length kinds → IsAccepted kinds a
      → IsCarriedOut tells before after asked answered task (Opens kinds a k)
  opens lesson kinds a k f serves session lt accepted = record {
    lesson = lesson;
    due = λ told. fits_session kinds a k (serves told);
    fetches = λ role is. absurd (cc is);
    unstored = λ is. absurd (cc is);
    short = λ is. absurd (cc is);
    stores = λ none. f.stores;
    others = λ told file other. f.same told file;
    kept = λ told. inl (f.same told);
    stored = λ told file ks b named makes is. absurd (cc is);
    closed = λ n is. absurd (cc is);
    gave_up = λ n is. absurd (cc is);
    ready = λ ks b m is.
        let one : kinds ≡ ks = cc is in
        let two : a ≡ b = cc is in
        let three : k ≡ m = cc is in (
          session,
          subst (λ (x : ℕ). x < length ks) three (subst (λ (x : List TileKind). k < length x) one lt),
          subst (λ (x : TreeAutomaton). IsAccepted ks x) two (subst (λ (x : List TileKind). IsAccepted x a) one accepted),
        );
    logs = λ text is. absurd (cc is);
  }

  -- a text is written
  pub prints : (text : List ℕ) → OnlyFetches tells before after None
      → (IsTrue tells → WritesFor before.contents task text)
      → IsToLog task
      → IsCarriedOut tells before after asked answered task (Prints text)
  prints text f writes logs = record {
    lesson = None;
    due = λ told. fits_text text (writes told);
    fetches = λ role is. absurd (cc is);
    unstored = λ is. absurd (cc is);
    short = λ is. absurd (cc is);
    stores = λ none. f.stores;
    others = λ told file other. f.same told file;
    kept = λ told. inl (f.same told);
    stored = λ told file kinds a named makes is. absurd (cc is);
    closed = λ n is. absurd (cc is);
    gave_up = λ n is. absurd (cc is);
    ready = λ kinds a k is. absurd (cc is);
    logs = λ other is. logs;
  }

  given_up_with : (kinds : List TileKind) (cells n : ℕ) → n ≡ cells → HasGivenUpOn kinds cells asked.give_ups answered.give_ups answered.last_give_up → HasGivenUpOn kinds n asked.give_ups answered.give_ups answered.last_give_up
  given_up_with kinds cells n same = subst (λ (m : ℕ). HasGivenUpOn kinds m asked.give_ups answered.give_ups answered.last_give_up) (sym same)

  asks_with : (kinds : List TileKind) (cells n : ℕ) → n ≡ cells → AsksOf tells before.contents task kinds cells → AsksOf tells before.contents task kinds n
  asks_with kinds cells n same = subst (λ (m : ℕ). AsksOf tells before.contents task kinds m) (sym same)

  -- a line with which a teacher refused
  pub says_taught : (lesson : Lesson) (kinds : List TileKind) (cells : ℕ) (line : Line) → OnlyFetches tells before after None
      → AsksOf tells before.contents task kinds cells
      → IsMade lesson kinds cells (Refused line)
      → IsRefusedBy kinds cells asked answered line
      → (IsTrue tells → FitsTask before.contents lesson task (Says line))
      → (IsTrue tells → (ks : List TileKind) (a : TreeAutomaton) → MakesFor before.contents lesson task ks a → ⊥)
      → IsCarriedOut tells before after asked answered task (Says line)
  says_taught lesson kinds cells line f asks made refused due never =
      let refusal = made_kind lesson kinds cells line made in
      record {
        lesson = lesson;
        due = due;
        fetches = λ role is. let same : line ≡ FileFault role = cc is in absurd (cc (ap kind_of same, refusal));
        unstored = λ is. let same : line ≡ StoreFault = cc is in absurd (cc (ap kind_of same, refusal));
        short = λ is. let same : line ≡ InputTooLong = cc is in absurd (cc (ap kind_of same, refusal));
        stores = λ none. f.stores;
        others = λ told file other. f.same told file;
        kept = λ told. inl (f.same told);
        stored = λ told file ks a named makes is. absurd (never told ks a makes);
        closed = λ n is. let same : line ≡ Closed n = cc is in record { kinds = kinds; cells = cells; asks = asks; closed = refused.closed n same };
        gave_up = λ n is.
            let same : line ≡ GaveUp n = cc is in
            let known = refused.gave_up n same in
            record { kinds = kinds; asks = asks_with kinds cells n known.0 asks; given_up = given_up_with kinds cells n known.0 known.1 };
        ready = λ ks a k is. absurd (cc is);
        logs = λ text is. absurd (cc is);
      }

  -- a teacher that stopped
  taught_stop : (kinds : List TileKind) (cells : ℕ) (stop : Stop) → OnlyFetches tells before after None
      → AsksOf tells before.contents task kinds cells
      → ((line : Line) → stop ≡ Say line → IsMade (lesson_of (Err stop)) kinds cells (Refused line))
      → ((line : Line) → stop ≡ Say line → IsRefusedBy kinds cells asked answered line)
      → ((line : Line) → stop ≡ Say line → IsTrue tells → FitsTask before.contents (lesson_of (Err stop)) task (Says line))
      → ((line : Line) → stop ≡ Say line → IsTrue tells → (ks : List TileKind) (a : TreeAutomaton) → MakesFor before.contents (lesson_of (Err stop)) task ks a → ⊥)
      → IsCarriedOut tells before after asked answered task (end_of (Err stop))
  taught_stop kinds cells (Say line) f asks made refused due never =
      says_taught (lesson_of (Err (Say line))) kinds cells line f asks (made line refl) (refused line refl) (due line refl) (never line refl)
  taught_stop kinds cells Memory f asks made refused due never = lacks f

  pub taught_stopped : (result : Result Work Stop) (kinds : List TileKind) (cells : ℕ) (stop : Stop) → IsErrAnd result (λ y. y ≡ stop) → OnlyFetches tells before after None
      → AsksOf tells before.contents task kinds cells
      → ((line : Line) → stop ≡ Say line → IsMade (lesson_of (Err stop)) kinds cells (Refused line))
      → ((line : Line) → stop ≡ Say line → IsRefusedBy kinds cells asked answered line)
      → ((line : Line) → stop ≡ Say line → IsTrue tells → FitsTask before.contents (lesson_of (Err stop)) task (Says line))
      → ((line : Line) → stop ≡ Say line → IsTrue tells → (ks : List TileKind) (a : TreeAutomaton) → MakesFor before.contents (lesson_of (Err stop)) task ks a → ⊥)
      → IsCarriedOut tells before after asked answered task (end_of result)
  taught_stopped (Ok work) kinds cells stop gives f asks made refused due never = absurd gives
  taught_stopped (Err y) kinds cells stop gives f asks made refused due never =
      subst (λ (s : Stop). IsCarriedOut tells before after asked answered task (end_of (Err s))) (sym gives) (taught_stop kinds cells stop f asks made refused due never)

-- what refuses a tessellation, or that it has a kind, fits the rows of a task
module _ (contents : Contents) (lesson : Lesson) (task : Task) (tess : List ℕ) where
  pub tess_fits : (line : Line) → ((l : Line) → IsTess contents tess (Refused l) → Row contents lesson task l)
      → (line ≡ FileFault Tess) ⊎ IsTess contents tess (Refused line) → FitsTask contents lesson task (Says line)
  tess_fits line row (inl is) = subst (λ (l : Line). FitsTask contents lesson task (Says l)) (sym is) (fits_unread Tess tt)
  tess_fits line row (inr is) = fits_row line (row line is)

  pub kind_fits : (k : ℕ) (line : Line) → ((l : Line) → IsTess contents tess (Refused l) → Row contents lesson task l)
      → ((kinds : List TileKind) → IsTess contents tess (Loaded kinds) → length kinds ≤ k → Row contents lesson task Usage)
      → (line ≡ FileFault Tess) ⊎ (IsTess contents tess (Refused line) ⊎ IsNoKind contents tess k line) → FitsTask contents lesson task (Says line)
  kind_fits k line row no_kind (inl is) = subst (λ (l : Line). FitsTask contents lesson task (Says l)) (sym is) (fits_unread Tess tt)
  kind_fits k line row no_kind (inr (inl is)) = fits_row line (row line is)
  kind_fits k line row no_kind (inr (inr few)) = subst (λ (l : Line). FitsTask contents lesson task (Says l)) (sym few.usage) (fits_row Usage (no_kind few.kinds few.loaded few.few))

  pub rules_fit : (kinds : List TileKind) (line : Line) → (IsRefusing : Line → Type 0) → FetchesFor contents task Rules → ((l : Line) → IsRefusing l → Row contents lesson task l)
      → (line ≡ FileFault Rules) ⊎ IsRefusing line → FitsTask contents lesson task (Says line)
  rules_fit kinds line IsRefusing fetches row (inl is) = subst (λ (l : Line). FitsTask contents lesson task (Says l)) (sym is) (fits_unread Rules fetches)
  rules_fit kinds line IsRefusing fetches row (inr is) = fits_row line (row line is)

-- a session that asks no teacher has its rules from a file
pub no_teacher : (tess : List ℕ) (k : ℕ) (rules : RulesFrom) (P : Type 0)
    → ((file : List ℕ) (cells : ℕ) → TeachesFor (RunSession tess k rules) file cells → ⊥)
    → ((file : List ℕ) → rules ≡ FromFile file → P) → P
no_teacher tess k (FromFile file) P none same = same file refl
no_teacher tess k (FromTeacher cells) P none same = absurd (none tess cells (refl, refl))
