-- What the words of the program ask for.
use Rattle.std.specs.Prelude.{◌≡◌, ◌≤◌, ℕ, List, [], ◌∷◌, Option, Some, None, codes}
use Rattle.short_numbers.specs.Numbers.{IsNumber}
use Rattle.tile_model.specs.declared.Letter.{Letter}
use Rattle.tile_model.specs.WalkTexts.{walk_text}
use Rattle.call_words.specs.Options.{value_of, AreOptions}
use Rattle.call_words.specs.declared.options.TheConstants.{MOST_CELLS, DEFAULT_CELLS}

-- where the rules of a session come from: from the file of this name, or from a teacher that may
-- make so many cells
pub data RulesFrom : Type 0 where
  FromFile : List ℕ → RulesFrom
  FromTeacher : ℕ → RulesFrom

-- to tell the type that a walk leads to from the start of kind k, to check rules, to answer the
-- commands of the input over rules, in the tree of kind k, to learn rules, to merge them, to write a
-- log that leads from walk u to walk w, both from the start of kind k, or to verify one
pub data Task : Type 0 where
  TellType : (tess : List ℕ) (k : ℕ) (walk : List Letter) → Task
  CheckRules : (tess rules : List ℕ) → Task
  RunSession : (tess : List ℕ) (k : ℕ) (rules : RulesFrom) → Task
  -- from a teacher that may make so many cells, and to store them in a file, where one is named
  LearnRules : (tess : List ℕ) (cells : ℕ) (out : Option (List ℕ)) → Task
  -- and to store what is left of them in a file
  MergeRules : (tess rules out : List ℕ) → Task
  WriteLog : (tess rules : List ℕ) (k : ℕ) (u w : List Letter) → Task
  -- the log is that of a file
  VerifyLog : (tess : List ℕ) (k : ℕ) (u w : List Letter) (log : List ℕ) → Task

-- `kind TESS K LETTERS`
pub record IsKindForm (words : List (List ℕ)) (tess : List ℕ) (k : ℕ) (walk : List Letter) :
    Type 0 where
  pub digits : List ℕ
  pub number : IsNumber digits k
  pub spelled : words ≡ codes "kind" ∷ tess ∷ digits ∷ walk_text walk ∷ []

-- the most cells that a teacher may be allowed
abbrev pub most_cells : ℕ
most_cells = MOST_CELLS

-- the word behind `--cells`: a number from 1 to 1,000,000
pub record IsCells (digits : List ℕ) (cells : ℕ) : Type 0 where
  pub number : IsNumber digits cells
  pub least : 1 ≤ cells
  pub most : cells ≤ most_cells

-- the cells that a teacher may make where the words name no number
abbrev pub default_cells : ℕ
default_cells = DEFAULT_CELLS

-- the cells that a teacher may make, by the value of `--cells`
abbrev pub AreCellsOf : Option (List ℕ) → ℕ → Type 0
AreCellsOf None cells = cells ≡ default_cells
AreCellsOf (Some digits) cells = IsCells digits cells

-- where the rules of a session come from, by the values of `--rules` and `--cells`, which do not
-- stand together
abbrev pub IsOriginOf : Option (List ℕ) → Option (List ℕ) → RulesFrom → Type 0
IsOriginOf None cells (FromFile file) = ⊥
IsOriginOf None cells (FromTeacher most) = AreCellsOf cells most
IsOriginOf (Some rules) None (FromFile file) = rules ≡ file
IsOriginOf (Some rules) None (FromTeacher most) = ⊥
IsOriginOf (Some rules) (Some digits) origin = ⊥

-- `run TESS K`, with at most one option: `--rules RULES` or `--cells N`
pub record IsRunForm (words : List (List ℕ)) (tess : List ℕ) (k : ℕ) (rules : RulesFrom) :
    Type 0 where
  pub digits : List ℕ
  pub options : List (List ℕ)
  pub number : IsNumber digits k
  pub known : AreOptions (codes "--rules") (codes "--cells") options
  pub origin : IsOriginOf (value_of (codes "--rules") options) (value_of (codes "--cells") options)
      rules
  pub spelled : words ≡ codes "run" ∷ tess ∷ digits ∷ options

-- `learn TESS`, with the options `--cells N` and `--out OUT`, in any order, each at most once
pub record IsLearnForm
    (words : List (List ℕ)) (tess : List ℕ) (cells : ℕ) (out : Option (List ℕ)) : Type 0 where
  pub options : List (List ℕ)
  pub known : AreOptions (codes "--cells") (codes "--out") options
  pub most : AreCellsOf (value_of (codes "--cells") options) cells
  pub stored : value_of (codes "--out") options ≡ out
  pub spelled : words ≡ codes "learn" ∷ tess ∷ options

-- `merge TESS RULES OUT`
abbrev pub IsMergeForm : List (List ℕ) → List ℕ → List ℕ → List ℕ → Type 0
IsMergeForm words tess rules out = words ≡ codes "merge" ∷ tess ∷ rules ∷ out ∷ []

-- `log TESS RULES K U W`
pub record IsLogForm
    (words : List (List ℕ)) (tess rules : List ℕ) (k : ℕ) (u w : List Letter) : Type 0 where
  pub digits : List ℕ
  pub number : IsNumber digits k
  pub spelled :
      words ≡ codes "log" ∷ tess ∷ rules ∷ digits ∷ walk_text u ∷ walk_text w ∷ []

-- `verify TESS K U W LOG`
pub record IsVerifyForm
    (words : List (List ℕ)) (tess : List ℕ) (k : ℕ) (u w : List Letter) (log : List ℕ) :
    Type 0 where
  pub digits : List ℕ
  pub number : IsNumber digits k
  pub spelled :
      words ≡ codes "verify" ∷ tess ∷ digits ∷ walk_text u ∷ walk_text w ∷ log ∷ []

-- the words ask for this task
abbrev pub Ask : List (List ℕ) → Task → Type 0
Ask words (TellType tess k walk) = IsKindForm words tess k walk
-- `check TESS RULES`
Ask words (CheckRules tess rules) = words ≡ codes "check" ∷ tess ∷ rules ∷ []
Ask words (RunSession tess k rules) = IsRunForm words tess k rules
Ask words (LearnRules tess cells out) = IsLearnForm words tess cells out
Ask words (MergeRules tess rules out) = IsMergeForm words tess rules out
Ask words (WriteLog tess rules k u w) = IsLogForm words tess rules k u w
Ask words (VerifyLog tess k u w log) = IsVerifyForm words tess k u w log

-- the words are in no form
abbrev pub HaveNoForm : List (List ℕ) → Type 0
HaveNoForm words = (task : Task) → Ask words task → ⊥

-- the words are not of the form `run`
abbrev pub AreNotOfRun : List (List ℕ) → Type 0
AreNotOfRun words =
    (tess : List ℕ) (k : ℕ) (rules : RulesFrom) → IsRunForm words tess k rules → ⊥

-- the words are not of the form `learn`
abbrev pub AreNotOfLearn : List (List ℕ) → Type 0
AreNotOfLearn words =
    (tess : List ℕ) (cells : ℕ) (out : Option (List ℕ)) → IsLearnForm words tess cells out → ⊥

-- the words are not of the form `merge`
abbrev pub AreNotOfMerge : List (List ℕ) → Type 0
AreNotOfMerge words = (tess rules out : List ℕ) → IsMergeForm words tess rules out → ⊥

-- the words are not of the form `log`
abbrev pub AreNotOfLog : List (List ℕ) → Type 0
AreNotOfLog words =
    (tess rules : List ℕ) (k : ℕ) (u w : List Letter) → IsLogForm words tess rules k u w → ⊥

-- the words are not of the form `verify`
abbrev pub AreNotOfVerify : List (List ℕ) → Type 0
AreNotOfVerify words =
    (tess : List ℕ) (k : ℕ) (u w : List Letter) (log : List ℕ)
    → IsVerifyForm words tess k u w log → ⊥

-- so many cells may be asked for
abbrev pub AreCells : ℕ → Type 0
AreCells cells = (1 ≤ cells) × (cells ≤ most_cells)

-- rules of this origin, and a task, ask for no other number of cells
abbrev pub AskInRange : RulesFrom → Type 0
AskInRange (FromFile file) = Unit {0}
AskInRange (FromTeacher cells) = AreCells cells

abbrev pub IsInRange : Task → Type 0
IsInRange (TellType tess k walk) = Unit {0}
IsInRange (CheckRules tess rules) = Unit {0}
IsInRange (RunSession tess k rules) = AskInRange rules
IsInRange (LearnRules tess cells out) = AreCells cells
IsInRange (MergeRules tess rules out) = Unit {0}
IsInRange (WriteLog tess rules k u w) = Unit {0}
IsInRange (VerifyLog tess k u w log) = Unit {0}

-- the task asks a teacher for the rules of the tessellation that this file holds, with so many
-- cells
abbrev pub TeachesFor : Task → List ℕ → ℕ → Type 0
TeachesFor (TellType tess k walk) file cells = ⊥
TeachesFor (CheckRules tess rules) file cells = ⊥
TeachesFor (RunSession tess k (FromFile rules)) file cells = ⊥
TeachesFor (RunSession tess k (FromTeacher most)) file cells = (tess ≡ file) × (most ≡ cells)
TeachesFor (LearnRules tess most out) file cells = (tess ≡ file) × (most ≡ cells)
TeachesFor (MergeRules tess rules out) file cells = ⊥
TeachesFor (WriteLog tess rules k u w) file cells = ⊥
TeachesFor (VerifyLog tess k u w log) file cells = ⊥

-- the words ask for no task that asks a teacher
abbrev pub AskNoTeacher : List (List ℕ) → Type 0
AskNoTeacher words =
    (task : Task) (file : List ℕ) (cells : ℕ) → Ask words task → TeachesFor task file cells → ⊥

-- the file in which a task stores rules, where it stores any
abbrev pub stored_in : Task → Option (List ℕ)
stored_in (TellType tess k walk) = None
stored_in (CheckRules tess rules) = None
stored_in (RunSession tess k rules) = None
stored_in (LearnRules tess cells out) = out
stored_in (MergeRules tess rules out) = Some out
stored_in (WriteLog tess rules k u w) = None
stored_in (VerifyLog tess k u w log) = None

-- the words name this file to store rules in
pub record IsOut (words : List (List ℕ)) (file : List ℕ) : Type 0 where
  pub task : Task
  pub ask : Ask words task
  pub named : stored_in task ≡ Some file
