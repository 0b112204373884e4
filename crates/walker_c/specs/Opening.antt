-- What it comes to that a session is asked for over the bytes of files.
use Rattle.std.specs.Prelude.{◌≡◌, ℕ, List, [], Some, codes, true, bytes_eq, if◌then◌else◌}
use Rattle.tile_model.specs.Tessellations.{TileKind}
use Rattle.tree_model.specs.Automata.{TreeAutomaton}
use Rattle.call_words.specs.Tasks.{RulesFrom, FromTeacher, RunSession, AreCells}
use Rattle.walker_run.specs.declared.line.Line.{Line}
use Rattle.walker_run.specs.declared.line.Line.TheVariants.{Usage}
use Rattle.walker_run.specs.Lines.{code_of, status_of, text_of}
use Rattle.walker_run.specs.Due.{Contents}
use Rattle.walker_run.specs.Effects.{FilesSeen, TeacherSeen, End, Says, Opens, IsCarriedOut}
use Rattle.walker_c.specs.Seats.{SeatState, IsNew, filled}

-- the names of the two files
abbrev pub tess_name : List ℕ
tess_name = codes "tess"

abbrev pub rules_name : List ℕ
rules_name = codes "rules"

-- what the files hold: this tessellation file, and under any other name this rules file
abbrev pub holding : List ℕ → List ℕ → Contents
holding tess rules name = if bytes_eq name tess_name then Some tess else Some rules

-- so it is seen, and no fetch or store has failed
abbrev pub held : List ℕ → List ℕ → FilesSeen
held tess rules =
    record {
      contents = holding tess rules;
      failed_fetches = 0;
      failed_stores = 0;
    }

-- The program, called to answer commands over files that hold these bytes, comes to this end.
pub record IsOpening (tess rules : List ℕ) (k : ℕ) (from : RulesFrom) (end : End) : Type 0 where
  pub after : FilesSeen
  pub asked : TeacherSeen
  pub answered : TeacherSeen
  pub carried :
      IsCarriedOut true (held tess rules) after asked answered (RunSession tess_name k from) end

-- the end is to answer commands, and the session is a new one over the rules and in the tree of the kind
pub record Seats (end : End) (seat : SeatState) : Type 0 where
  pub kinds : List TileKind
  pub automaton : TreeAutomaton
  pub kind : ℕ
  pub opens : end ≡ Opens kinds automaton kind
  pub new : IsNew kinds automaton kind seat

-- The status that tells the end, and the line that the program says, in the room for it.
pub data HasOpened (room room' : List ℕ) (end : End) : ℕ → Type 0 where
  opened :
      (kinds : List TileKind) (a : TreeAutomaton) (k : ℕ)
      → end ≡ Opens kinds a k
      → room' ≡ filled room []
      → HasOpened room room' end 0
  refused :
      (line : Line)
      → end ≡ Says line
      → room' ≡ filled room (text_of line)
      → HasOpened room room' end (code_of (status_of line))
  lacking : HasOpened room room' end 11

-- So it comes to where the rules are made, if it is by so many cells as may be asked for; else the
-- words are in no form.
pub data IsLearning (tess : List ℕ) (cells k : ℕ) : End → Type 0 where
  learning :
      (end : End)
      → AreCells cells
      → IsOpening tess tess k (FromTeacher cells) end
      → IsLearning tess cells k end
  no_cells : ¬ AreCells cells → IsLearning tess cells k (Says Usage)
