-- A run of the program from its beginning to its end, with all that is seen of its outside.
use Rattle.std.specs.Prelude.{ℕ, Bool, List, Option}
use Rattle.state_learner.specs.GiveUps.{GiveUp}
use Rattle.walker_run.specs.declared.status.Status.{Status}
use Rattle.walker_run.specs.Held.{Lesson}

-- A call of the program: its words, what each file holds before it, and an answer that a teacher may
-- give. These alone decide what is due to it. That the answer is the one of this run's teacher is seen
-- in the code alone.
pub record Call : Type 0 where
  pub words : List (List ℕ)
  pub contents : List ℕ → Option (List ℕ)
  pub lesson : Lesson

-- What the files, the source, the sink and the teacher tell at one moment.
-- That is what each file holds, which bytes are left to be read, which bytes were taken, how often
-- each kind of call failed, how often the teacher gave up, and on what it did so last.
pub record Outside : Type 0 where
  pub contents : List ℕ → Option (List ℕ)
  pub failed_fetches : ℕ
  pub failed_stores : ℕ
  pub left : List ℕ
  pub failed_reads : ℕ
  pub taken : List ℕ
  pub failed_writes : ℕ
  pub give_ups : ℕ
  pub last_give_up : Option GiveUp

-- a run: its words, which parts of the outside tell their bytes, the outside before and after, and
-- the status
pub record Run : Type 0 where
  pub words : List (List ℕ)
  pub files_tell : Bool
  pub source_tells : Bool
  pub sink_tells : Bool
  pub before : Outside
  pub after : Outside
  pub status : Status

abbrev pub call_with : List (List ℕ) → (List ℕ → Option (List ℕ)) → Lesson → Call
call_with words contents lesson = record { words = words; contents = contents; lesson = lesson }

-- the call that a run begins with, where the teacher answers this
abbrev pub call_of : Run → Lesson → Call
call_of run lesson = call_with run.words run.before.contents lesson

-- what files, a source, a sink and a teacher tell, by the words that their types have for it
abbrev pub seen :
    {F I O T : Type 0}
    → (F → List ℕ → Option (List ℕ)) → (F → ℕ) → (F → ℕ)
    → (I → List ℕ) → (I → ℕ)
    → (O → List ℕ) → (O → ℕ)
    → (T → ℕ) → (T → Option GiveUp)
    → F → I → O → T → Outside
seen contents fetches stores left reads taken writes give_ups last files input out teacher =
    record {
      contents = contents files;
      failed_fetches = fetches files;
      failed_stores = stores files;
      left = left input;
      failed_reads = reads input;
      taken = taken out;
      failed_writes = writes out;
      give_ups = give_ups teacher;
      last_give_up = last teacher;
    }
