-- What the files hold, where they tell it: a tessellation, rules or a log, or the line that
-- refuses them.
use Rattle.std.specs.Prelude.{◌≡◌, ℕ, ◌<◌, ◌≤◌, List, length, Option, Some, All}
use Rattle.tile_model.specs.Tessellations.{TileKind}
use Rattle.tile_model.specs.Validity.{IsValid}
use Rattle.tile_model.specs.Relation.{Change}
use Rattle.tile_model.specs.declared.fault.KindFault.{KindFault}
use Rattle.tree_model.specs.Automata.{TreeAutomaton}
use Rattle.tree_model.specs.Conditions.{IsAccepted}
use Rattle.tess_text.specs.Grammar.{IsFirstBadLine}
use Rattle.tess_text.specs.Spelling.{IsSpelling, IsRefused}
use Rattle.serde_json.specs.Data.{Data}
use Rattle.rules_file.specs.declared.fault.Part.{Part}
use Rattle.rules_file.specs.Spelling.{IsTextOf, IsRulesFile}
use Rattle.rules_file.specs.Faults.{IsFirstFault}
use Rattle.structure_check.specs.Broken.{IsFirstBroken}
use Rattle.log_model.specs.LogTexts.{HasText, log_text, IsFirstBadLine as IsFirstBadLogLine}
use Rattle.walker_run.specs.declared.load.TheConstants.{LOG_LIMIT}
use Rattle.walker_run.specs.declared.line.Role.TheVariants.{Tess, Rules, Log}
use Rattle.walker_run.specs.declared.line.Line.{Line}
use Rattle.walker_run.specs.declared.line.Line.TheVariants.{FileTooLong, TessLine, TessKinds}
use Rattle.walker_run.specs.declared.line.Line.TheVariants.{RulesSyntax, RulesShape, Broken}
use Rattle.walker_run.specs.declared.line.Line.TheVariants.{Spherical, Closed, GaveUp, LogLine}
use Rattle.call_words.specs.Tasks.{RulesFrom, FromFile, FromTeacher}
use Rattle.regular_maker.specs.Regular.{IsRegular, IsInfinite, IsSpherical, p_of, q_of}
use Rattle.regular_maker.specs.Automaton.{regular_automaton}
use Rattle.state_learner.specs.Learning.{HasClosed}

-- the greatest number of bytes of a tessellation file and of a rules file
abbrev pub tess_limit : ℕ
tess_limit = 1048576

abbrev pub rules_limit : ℕ
rules_limit = 134217728

-- the greatest number of bytes of a log file
abbrev pub log_limit : ℕ
log_limit = LOG_LIMIT

-- the file holds these bytes, and they are within its limit
pub record Holds
    (contents : List ℕ → Option (List ℕ)) (file : List ℕ) (limit : ℕ) (bytes : List ℕ) :
    Type 0 where
  pub content : contents file ≡ Some bytes
  pub within : length bytes ≤ limit

-- the file holds more bytes than its limit
pub record HoldsTooMany
    (contents : List ℕ → Option (List ℕ)) (file : List ℕ) (limit : ℕ) : Type 0 where
  pub bytes : List ℕ
  pub content : contents file ≡ Some bytes
  pub longer : limit < length bytes

-- what is loaded from a file, or the line that refuses it
pub data Outcome (A : Type 0) : Type 0 where
  Loaded : A → Outcome A
  Refused : Line → Outcome A

-- what a tessellation file comes to
pub data IsTess (contents : List ℕ → Option (List ℕ)) (file : List ℕ) :
    Outcome (List TileKind) → Type 0 where
  -- it is too long
  tess_too_long :
      HoldsTooMany contents file tess_limit
      → IsTess contents file (Refused (FileTooLong Tess))
  -- line n is its first bad line
  tess_line :
      (bytes : List ℕ) (n : ℕ)
      → Holds contents file tess_limit bytes
      → IsFirstBadLine bytes n
      → IsTess contents file (Refused (TessLine n))
  -- no line is bad, and its kinds have this fault
  tess_kinds :
      (bytes : List ℕ) (fault : KindFault)
      → Holds contents file tess_limit bytes
      → IsRefused bytes fault
      → IsTess contents file (Refused (TessKinds fault))
  -- it is a spelling of a tessellation
  tess_loaded :
      (bytes : List ℕ) (kinds : List TileKind)
      → Holds contents file tess_limit bytes
      → IsSpelling bytes kinds
      → IsValid kinds
      → IsTess contents file (Loaded kinds)

-- the line that tells of the first condition that is broken, and where
abbrev pub broken_at : (c first second : ℕ) → Line
broken_at c first second = Broken (record { condition = c; first = first; second = second })

-- what a rules file comes to, over the kinds of a tessellation
pub data IsRules (contents : List ℕ → Option (List ℕ)) (kinds : List TileKind) (file : List ℕ) :
    Outcome TreeAutomaton → Type 0 where
  -- it is too long
  rules_too_long :
      HoldsTooMany contents file rules_limit
      → IsRules contents kinds file (Refused (FileTooLong Rules))
  -- it is no JSON text
  rules_syntax :
      (bytes : List ℕ)
      → Holds contents file rules_limit bytes
      → ((d : Data) → ¬ IsTextOf bytes d)
      → IsRules contents kinds file (Refused RulesSyntax)
  -- the value of the text first fails at this part
  rules_shape :
      (bytes : List ℕ) (d : Data) (part : Part) (index : ℕ)
      → Holds contents file rules_limit bytes
      → IsTextOf bytes d
      → IsFirstFault d part index
      → IsRules contents kinds file (Refused (RulesShape part index))
  -- the automaton breaks a condition, first at this place
  rules_broken :
      (bytes : List ℕ) (a : TreeAutomaton) (c first second : ℕ)
      → Holds contents file rules_limit bytes
      → IsRulesFile bytes a
      → IsFirstBroken kinds a c first second
      → IsRules contents kinds file (Refused (broken_at c first second))
  -- it is a spelling of an automaton that meets all conditions
  rules_loaded :
      (bytes : List ℕ) (a : TreeAutomaton)
      → Holds contents file rules_limit bytes
      → IsRulesFile bytes a
      → IsAccepted kinds a
      → IsRules contents kinds file (Loaded a)

-- what a log file comes to
pub data IsLog (contents : List ℕ → Option (List ℕ)) (file : List ℕ) :
    Outcome (List Change) → Type 0 where
  -- it is too long
  log_too_long :
      HoldsTooMany contents file log_limit
      → IsLog contents file (Refused (FileTooLong Log))
  -- line n is its first bad line
  log_line :
      (bytes : List ℕ) (n : ℕ)
      → Holds contents file log_limit bytes
      → IsFirstBadLogLine bytes n
      → IsLog contents file (Refused (LogLine n))
  -- it is the text of a log
  log_loaded :
      (bytes : List ℕ) (log : List Change)
      → Holds contents file log_limit bytes
      → All HasText log
      → log_text log ≡ bytes
      → IsLog contents file (Loaded log)

-- What a teacher may have answered in a call, where one was asked and there was memory for the
-- answer: rules, or the line that refuses them.
abbrev pub Lesson : Type 0
Lesson = Option (Outcome TreeAutomaton)

-- What a teacher that may make so many cells may answer of a tessellation that is not regular: that
-- there are finitely many tiles, or that it gave up; or rules that meet the twelve conditions.
abbrev pub MayRefuse : List TileKind → ℕ → Line → Type 0
MayRefuse kinds cells (Closed n) = HasClosed kinds n
MayRefuse kinds cells (GaveUp n) = n ≡ cells
MayRefuse kinds cells _ = ⊥

abbrev pub MayTeach : List TileKind → ℕ → Outcome TreeAutomaton → Type 0
MayTeach kinds cells (Loaded a) = IsAccepted kinds a
MayTeach kinds cells (Refused line) = MayRefuse kinds cells line

-- What the making of rules comes to, for the kinds of a tessellation and so many cells.
-- For a regular tessellation the teacher has no choice.
pub data IsMade (lesson : Lesson) (kinds : List TileKind) (cells : ℕ) :
    Outcome TreeAutomaton → Type 0 where
  -- it is regular, and lies on the sphere
  made_spherical :
      IsRegular kinds
      → IsSpherical (p_of kinds) (q_of kinds)
      → IsMade lesson kinds cells (Refused (Spherical (p_of kinds) (q_of kinds)))
  -- it is regular, and has infinitely many tiles
  made_rules :
      IsRegular kinds
      → IsInfinite (p_of kinds) (q_of kinds)
      → IsMade lesson kinds cells (Loaded (regular_automaton (p_of kinds) (q_of kinds)))
  -- it is not regular: what the teacher answered
  made_taught :
      (outcome : Outcome TreeAutomaton)
      → ¬ IsRegular kinds
      → lesson ≡ Some outcome
      → MayTeach kinds cells outcome
      → IsMade lesson kinds cells outcome

-- what the rules come to that a file holds, or that a teacher answers
abbrev pub RulesOf :
    (List ℕ → Option (List ℕ)) → Lesson → List TileKind → RulesFrom → Outcome TreeAutomaton
    → Type 0
RulesOf contents lesson kinds (FromFile file) outcome = IsRules contents kinds file outcome
RulesOf contents lesson kinds (FromTeacher cells) outcome = IsMade lesson kinds cells outcome
