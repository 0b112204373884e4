-- Rules that are made, stored where a file is named for them, and told.
use Rattle.std.proofs.Common.{◌≡◌, ◌⊎◌, inl, inr, ℕ, Bool, IsTrue, List, Option, Some, None, length, refl, sym, ◌∙◌, subst}
use Rattle.tile_model.specs.Tessellations.{TileKind}
use Rattle.tree_model.specs.Automata.{TreeAutomaton}
use Rattle.rules_file.specs.Spelling.{rules_text}
use Rattle.way_io.specs.Counts.{Rose}
use Rattle.way_io.specs.Contents.{KeepsAll}
use Rattle.call_words.specs.Tasks.{Task, TellType, CheckRules, RunSession, LearnRules, MergeRules, WriteLog, VerifyLog, stored_in}
use Rattle.walker_run.specs.declared.line.Line.{Line}
use Rattle.walker_run.specs.declared.line.Line.TheVariants.{Accepted, FileFault, StoreFault, Closed, GaveUp, InputTooLong}
use Rattle.walker_run.specs.Lines.{MayStore, status_of}
use Rattle.walker_run.specs.Held.{Loaded, Refused, Lesson, IsMade}
use Rattle.walker_run.specs.Due.{Contents, Row, StoresFor, StoresAs, MakesFor, check_accepted, merge_accepted}
use Rattle.walker_run.specs.Effects.{FilesSeen, TeacherSeen, OnlyFetches, KeepsRules, End, Says, Opens, Prints, Lacks, FitsTask, fits_row, fits_unstored, fits_nothing, MayStoreAt, IsCarriedOut}
use Rattle.walker_run.specs.Below.{LawsBelow}
use Rattle.walker_run.proofs.Unique.{one_made, one_makes}

-- the lines of rules that were kept
abbrev IsKept : Line → Type 0
IsKept (Accepted states corners) = Unit {0}
IsKept StoreFault = Unit {0}
IsKept _ = ⊥

-- rules that are refused for one tessellation are not made
pub no_making : (lesson : Lesson) (kinds kinds' : List TileKind) (cells : ℕ) (line : Line) (a' : TreeAutomaton) → kinds ≡ kinds' → IsMade lesson kinds cells (Refused line) → IsMade lesson kinds' cells (Loaded a') → ⊥
no_making lesson kinds kinds' cells line a' same one two =
    let outcome = one_made lesson kinds cells (subst (λ (ks : List TileKind). IsMade lesson ks cells (Loaded a')) (sym same) two) one in
    cc outcome

-- of rules that are made their numbers are due
pub made_row : (contents : Contents) (lesson : Lesson) (task : Task) (kinds : List TileKind) (a : TreeAutomaton) → MakesFor contents lesson task kinds a → Row contents lesson task (Accepted (length a.states) (length a.corners))
made_row contents lesson (TellType tess k walk) kinds a makes = absurd makes
made_row contents lesson (CheckRules tess rules) kinds a makes = absurd makes
made_row contents lesson (RunSession tess k rules) kinds a makes = absurd makes
made_row contents lesson (LearnRules tess cells out) kinds a makes = check_accepted kinds a makes.loaded makes.made
made_row contents lesson (MergeRules tess rules out) kinds a makes = merge_accepted kinds a makes
made_row contents lesson (WriteLog tess rules k u w) kinds a makes = absurd makes
made_row contents lesson (VerifyLog tess k u w log) kinds a makes = absurd makes

module _ (tells : Bool) (before between after : FilesSeen) (asked answered : TeacherSeen) (task : Task) (lesson : Lesson) (kinds : List TileKind) (a : TreeAutomaton) (f : OnlyFetches tells before between None) (makes : IsTrue tells → MakesFor before.contents lesson task kinds a) where
  abbrev Keeps : End → Type 0
  Keeps end = KeepsRules tells between after (stored_in task) a end

  stores_for : IsTrue tells → (file : List ℕ) → StoresAs task file → StoresFor before.contents lesson task
  stores_for told file named = record { file = file; kinds = kinds; automaton = a; named = named; makes = makes told }

  kept_due : (end : End) → Keeps end → IsTrue tells → FitsTask before.contents lesson task end
  kept_due (Says line) k told = elim (k.told line refl) [
    | inl is ↦ subst (λ (l : Line). FitsTask before.contents lesson task (Says l)) (sym is) (fits_row (Accepted (length a.states) (length a.corners)) (made_row before.contents lesson task kinds a (makes told)))
    | inr is ↦ subst (λ (l : Line). FitsTask before.contents lesson task (Says l)) (sym is.1) (fits_unstored (stores_for told is.0.0 is.0.1))
  ]
  kept_due (Opens ks b n) k told = absurd (k.unopened ks b n refl)
  kept_due (Prints text) k told = absurd (k.unprinted text refl)
  kept_due Lacks k told = fits_nothing

  kept_line : (line : Line) (end : End) → Keeps end → end ≡ Says line → IsKept line
  kept_line line end k is = elim (k.told line is) [
    | inl same ↦ subst IsKept (sym same) tt
    | inr same ↦ subst IsKept (sym same.1) tt
  ]

  may_store : (end : End) → Keeps end → MayStoreAt end
  may_store (Says line) k = elim (k.told line refl) [
    | inl is ↦ subst (λ (l : Line). MayStore (status_of l)) (sym is) tt
    | inr is ↦ subst (λ (l : Line). MayStore (status_of l)) (sym is.1) tt
  ]
  may_store (Opens ks b n) k = k.unopened ks b n refl
  may_store (Prints text) k = k.unprinted text refl
  may_store Lacks k = tt

  kept_or_stored : (out : Option (List ℕ)) → stored_in task ≡ out → (end : End) → Keeps end → IsTrue tells → KeepsAll before.contents after.contents ⊎ (StoresFor before.contents lesson task × MayStoreAt end)
  kept_or_stored None is end k told = inl (λ file. k.others told file (λ named. absurd (cc (is, named))) ∙ f.same told file)
  kept_or_stored (Some file) is end k told = inr (stores_for told file is, may_store end k)

  rose_stores : Rose between.failed_stores after.failed_stores → Rose before.failed_stores after.failed_stores
  rose_stores = subst (λ (n : ℕ). Rose n after.failed_stores) f.stores

  unstored_counted : (end : End) → Keeps end → end ≡ Says StoreFault → Rose before.failed_stores after.failed_stores
  unstored_counted end k is = elim (k.told StoreFault is) [
    | inl same ↦ absurd (cc same)
    | inr same ↦ rose_stores same.2
  ]

  stored_text : LawsBelow → (end : End) → Keeps end → IsTrue tells → (file : List ℕ) (ks : List TileKind) (b : TreeAutomaton) → StoresAs task file → MakesFor before.contents lesson task ks b → end ≡ Says (Accepted (length b.states) (length b.corners)) → after.contents file ≡ Some (rules_text b)
  stored_text below end k told file ks b named other is =
      let same : b ≡ a = one_makes below before.contents lesson task kinds ks a b (makes told) other in
      subst (λ (x : TreeAutomaton). after.contents file ≡ Some (rules_text x)) (sym same)
      (k.stored told file named (subst (λ (x : TreeAutomaton). end ≡ Says (Accepted (length x.states) (length x.corners))) same is))

  pub keeps : LawsBelow → (end : End) → Keeps end → IsCarriedOut tells before after asked answered task end
  keeps below end k = record {
    lesson = lesson;
    due = kept_due end k;
    fetches = λ role is. absurd (kept_line (FileFault role) end k is);
    unstored = unstored_counted end k;
    short = λ is. absurd (kept_line InputTooLong end k is);
    stores = λ none. k.stores none ∙ f.stores;
    others = λ told file other. k.others told file other ∙ f.same told file;
    kept = kept_or_stored (stored_in task) refl end k;
    stored = stored_text below end k;
    closed = λ n is. absurd (kept_line (Closed n) end k is);
    gave_up = λ n is. absurd (kept_line (GaveUp n) end k is);
    ready = λ ks b n is. absurd (k.unopened ks b n is);
    logs = λ text is. absurd (k.unprinted text is);
  }
