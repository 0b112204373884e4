-- What is known where walkers are to be served.
use Rattle.std.proofs.Common.{◌≡◌, ◌<◌, ℕ, Bool, IsTrue, List, length, subst}
use Rattle.tile_model.specs.Tessellations.{TileKind}
use Rattle.tree_model.specs.Automata.{TreeAutomaton}
use Rattle.tree_model.specs.Conditions.{IsAccepted}
use Rattle.call_words.specs.Tasks.{AreNotOfRun}
use Rattle.walker_run.specs.declared.status.Status.{Status}
use Rattle.walker_run.specs.declared.line.Line.{Line}
use Rattle.walker_run.specs.declared.line.Line.TheVariants.{InputTooLong as TooLong}
use Rattle.walker_run.specs.Lines.{IsRefusal}
use Rattle.walker_run.specs.Runs.{call_with}
use Rattle.walker_run.specs.Held.{Lesson}
use Rattle.walker_run.specs.Due.{IsDue, Serves}
use Rattle.walker_run.specs.Effects.{FilesSeen, TeacherSeen, End, Opens, IsDecided, formless, wordless, carried_out}
use Rattle.walker_run.specs.Ending.{SaysLine, said, unsaid, unwritten}
use Rattle.walker_run.specs.Below.{LawsBelow}
use Rattle.walker_run.proofs.Unique.{never_both}
use Rattle.walker_run.proofs.Whatever.{due_whatever}
use Rattle.walker_run.proofs.Known.{IsReached, reached_by, of_run}
use Rattle.std.proofs.Common.{None}

module _ (tells : Bool) (words : List (List ℕ)) (before after : FilesSeen) (asked answered : TeacherSeen) (kinds : List TileKind) (a : TreeAutomaton) (k : ℕ) where
  -- the words are of the form `run`, and the rules are accepted and have this kind
  pub record IsOpened : Type 0 where
    pub of_form : ¬ AreNotOfRun words
    pub is_kind : k < length kinds
    pub accepted : IsAccepted kinds a

  pub opened : {end : End} → IsDecided tells words before after asked answered end → end ≡ Opens kinds a k → IsOpened
  opened (formless none same) is = absurd (cc is)
  opened (wordless same) is = absurd (cc is)
  opened (carried_out task end ask c) is =
      let ready = c.ready kinds a k is in
      record { of_form = of_run words task ask ready.0; is_kind = ready.1; accepted = ready.2 }

  served : {end : End} → IsDecided tells words before after asked answered end → end ≡ Opens kinds a k → IsTrue tells → (lesson : Lesson) × Serves (call_with words before.contents lesson) kinds a k
  served (formless none same) is told = absurd (cc is)
  served (wordless same) is told = absurd (cc is)
  served (carried_out task end ask c) is told =
      (c.lesson, subst (λ (e : End). IsReached (call_with words before.contents c.lesson) e) is (reached_by (call_with words before.contents c.lesson) task ask (c.due told)))

  -- no line is due whatever the teacher answers
  pub nothing_due : LawsBelow → {end : End} → IsDecided tells words before after asked answered end → end ≡ Opens kinds a k → IsTrue tells → (line : Line) → IsDue (call_with words before.contents None) line → ⊥
  nothing_due below decided is told line due =
      let found = served decided is told in
      never_both below (call_with words before.contents found.0) line kinds a k (due_whatever before.contents found.0 words due) found.1

-- that an input is too long is no refusal
pub too_long_no_refusal : (takes : Bool) (taken taken' : List ℕ) (status : Status) → SaysLine takes TooLong taken taken' status → IsRefusal status → ⊥
too_long_no_refusal takes taken taken' status (said is wrote) refusal = subst IsRefusal is refusal
too_long_no_refusal takes taken taken' status (unsaid is kept) refusal = subst IsRefusal is refusal
too_long_no_refusal takes taken taken' status (unwritten is part) refusal = subst IsRefusal is refusal
