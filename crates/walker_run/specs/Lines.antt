-- The statuses of the program, and the lines that go with them.
use Rattle.std.specs.Prelude.{ℕ, List, [], ◌∷◌, ◌++◌, codes, decimal}
use Rattle.tile_model.specs.declared.fault.KindFault.{KindFault}
use Rattle.tile_model.specs.declared.fault.KindFault.TheVariants.{Count, Sides, Repeat, Partner}
use Rattle.tile_model.specs.declared.fault.KindFault.TheVariants.{Valence, Involution, Corner}
use Rattle.rules_file.specs.declared.fault.Part.{Part}
use Rattle.rules_file.specs.declared.fault.Part.TheVariants.{Whole, Version, Scale, Roots, Corners}
use Rattle.rules_file.specs.declared.fault.Part.TheVariants.{Corner as OneCorner, States, State}
use Rattle.walker_run.specs.declared.status.Status.{Status}
use Rattle.walker_run.specs.declared.status.Status.TheVariants.{Done, Usage as UsageStatus}
use Rattle.walker_run.specs.declared.status.Status.TheVariants.{FileFault as FileFaultStatus}
use Rattle.walker_run.specs.declared.status.Status.TheVariants.{FileTooLong as FileTooLongStatus}
use Rattle.walker_run.specs.declared.status.Status.TheVariants.{TessRefused, RulesText, NotAccepted}
use Rattle.walker_run.specs.declared.status.Status.TheVariants.{Memory, ReadFault, WriteFault}
use Rattle.walker_run.specs.declared.status.Status.TheVariants.{InputTooLong as InputTooLongStatus}
use Rattle.walker_run.specs.declared.status.Status.TheVariants.{Spherical as SphericalStatus}
use Rattle.walker_run.specs.declared.status.Status.TheVariants.{Closed as ClosedStatus}
use Rattle.walker_run.specs.declared.status.Status.TheVariants.{GaveUp as GaveUpStatus}
use Rattle.walker_run.specs.declared.status.Status.TheVariants.{StoreFault as StoreFaultStatus}
use Rattle.walker_run.specs.declared.status.Status.TheVariants.{Apart as ApartStatus, LogRefused}
use Rattle.walker_run.specs.declared.status.Status.TheVariants.{TooDeep as TooDeepStatus}
use Rattle.walker_run.specs.declared.line.Role.TheVariants.{Tess, Rules, Log}
use Rattle.walker_run.specs.declared.line.Line.{Line}
use Rattle.walker_run.specs.declared.line.Line.TheVariants.{TypeTold, Accepted, Usage, FileFault}
use Rattle.walker_run.specs.declared.line.Line.TheVariants.{FileTooLong, TessLine, TessKinds}
use Rattle.walker_run.specs.declared.line.Line.TheVariants.{RulesSyntax, RulesShape, Broken}
use Rattle.walker_run.specs.declared.line.Line.TheVariants.{Spherical, Closed, GaveUp, StoreFault}
use Rattle.walker_run.specs.declared.line.Line.TheVariants.{InputTooLong, Related, Apart, TooDeep}
use Rattle.walker_run.specs.declared.line.Line.TheVariants.{LogLine, LogChange, LogEnd}

-- the exit status
abbrev pub code_of : Status → ℕ
code_of Done = 0
code_of UsageStatus = 2
code_of FileFaultStatus = 3
code_of FileTooLongStatus = 4
code_of TessRefused = 5
code_of RulesText = 6
code_of NotAccepted = 7
code_of SphericalStatus = 8
code_of ClosedStatus = 9
code_of GaveUpStatus = 10
code_of Memory = 11
code_of ReadFault = 12
code_of WriteFault = 13
code_of StoreFaultStatus = 14
code_of InputTooLongStatus = 15
code_of ApartStatus = 16
code_of LogRefused = 17
code_of TooDeepStatus = 18

-- The statuses of a refusal: it comes before any command is read.
abbrev pub IsRefusal : Status → Type 0
IsRefusal Done = ⊥
IsRefusal Memory = ⊥
IsRefusal ReadFault = ⊥
IsRefusal WriteFault = ⊥
IsRefusal InputTooLongStatus = ⊥
IsRefusal _ = Unit {0}

-- the statuses that tell of the outside or of memory
abbrev pub IsOutside : Status → Type 0
IsOutside FileFaultStatus = Unit {0}
IsOutside StoreFaultStatus = Unit {0}
IsOutside WriteFault = Unit {0}
IsOutside Memory = Unit {0}
IsOutside _ = ⊥

-- the statuses with which a file may have been stored
abbrev pub MayStore : Status → Type 0
MayStore Done = Unit {0}
MayStore WriteFault = Unit {0}
MayStore StoreFaultStatus = Unit {0}
MayStore Memory = Unit {0}
MayStore _ = ⊥

-- the status of a line
abbrev pub status_of : Line → Status
status_of (TypeTold d) = Done
status_of (Accepted states corners) = Done
status_of Usage = UsageStatus
status_of (FileFault role) = FileFaultStatus
status_of (FileTooLong role) = FileTooLongStatus
status_of (TessLine n) = TessRefused
status_of (TessKinds fault) = TessRefused
status_of RulesSyntax = RulesText
status_of (RulesShape part index) = RulesText
status_of (Broken at) = NotAccepted
status_of (Spherical p q) = SphericalStatus
status_of (Closed n) = ClosedStatus
status_of (GaveUp cells) = GaveUpStatus
status_of StoreFault = StoreFaultStatus
status_of InputTooLong = InputTooLongStatus
status_of Related = Done
status_of Apart = ApartStatus
status_of TooDeep = TooDeepStatus
status_of (LogLine n) = LogRefused
status_of (LogChange n) = LogRefused
status_of LogEnd = LogRefused

-- numbers, each behind a space, and a line feed
abbrev pub numbers_text : List ℕ → List ℕ
numbers_text [] = 10 ∷ []
numbers_text (n ∷ ns) = 32 ∷ (decimal n ++ numbers_text ns)

abbrev pub numbered : List ℕ → List ℕ → List ℕ
numbered text ns = text ++ numbers_text ns

-- No file leads to a wrong number of kinds, which has no line.
abbrev pub kind_fault_text : KindFault → List ℕ
kind_fault_text Count = []
kind_fault_text (Sides k s) = numbered (codes "tess sides") (k ∷ s ∷ [])
kind_fault_text (Repeat k s) = numbered (codes "tess repeat") (k ∷ s ∷ [])
kind_fault_text (Partner k s) = numbered (codes "tess partner") (k ∷ s ∷ [])
kind_fault_text (Valence k s) = numbered (codes "tess valence") (k ∷ s ∷ [])
kind_fault_text (Involution k s) = numbered (codes "tess involution") (k ∷ s ∷ [])
kind_fault_text (Corner k s) = numbered (codes "tess corner") (k ∷ s ∷ [])

abbrev pub shape_words_of : Part → List ℕ
shape_words_of Whole = codes "rules shape whole"
shape_words_of Version = codes "rules shape version"
shape_words_of Scale = codes "rules shape scale"
shape_words_of Roots = codes "rules shape roots"
shape_words_of Corners = codes "rules shape corners"
shape_words_of OneCorner = codes "rules shape corner"
shape_words_of States = codes "rules shape states"
shape_words_of State = codes "rules shape state"

-- the text of a line
abbrev pub text_of : Line → List ℕ
text_of (TypeTold d) = numbered (codes "type") (d.0 ∷ d.1 ∷ [])
text_of (Accepted states corners) = numbered (codes "accepted") (states ∷ corners ∷ [])
text_of Usage = numbered (codes "usage") []
text_of (FileFault Tess) = numbered (codes "file fault tess") []
text_of (FileFault Rules) = numbered (codes "file fault rules") []
text_of (FileFault Log) = numbered (codes "file fault log") []
text_of (FileTooLong Tess) = numbered (codes "file too long tess") []
text_of (FileTooLong Rules) = numbered (codes "file too long rules") []
text_of (FileTooLong Log) = numbered (codes "file too long log") []
text_of (TessLine n) = numbered (codes "tess line") (n ∷ [])
text_of (TessKinds fault) = kind_fault_text fault
text_of RulesSyntax = numbered (codes "rules syntax") []
text_of (RulesShape part index) = numbered (shape_words_of part) (index ∷ [])
text_of (Broken at) = numbered (codes "broken") (at.condition ∷ at.first ∷ at.second ∷ [])
text_of (Spherical p q) = numbered (codes "spherical") (p ∷ q ∷ [])
text_of (Closed n) = numbered (codes "closed") (n ∷ [])
text_of (GaveUp cells) = numbered (codes "gave up") (cells ∷ [])
text_of StoreFault = numbered (codes "store fault") []
text_of InputTooLong = numbered (codes "input too long") []
text_of Related = numbered (codes "related") []
text_of Apart = numbered (codes "apart") []
text_of TooDeep = numbered (codes "deep") []
text_of (LogLine n) = numbered (codes "log line") (n ∷ [])
text_of (LogChange n) = numbered (codes "log change") (n ∷ [])
text_of LogEnd = numbered (codes "log end") []
