-- The task that a form of the words is read as.
use Rattle.std.specs.Prelude.{ℕ, List, Option, Some, None}
use Rattle.call_words.specs.declared.options.Named.{Named}
use Rattle.call_words.specs.declared.options.Named.TheVariants.{Value, Nothing}
use Rattle.call_words.specs.declared.options.Origin.{Origin}
use Rattle.call_words.specs.declared.options.Origin.TheVariants.{File, Teacher}
use Rattle.call_words.specs.declared.forms.Form.{Form}
use Rattle.call_words.specs.declared.forms.Form.TheVariants.{Kind, Check, Run, Learn, Merge, Log, Verify}
use Rattle.call_words.specs.Tasks.{Task, TellType, CheckRules, RunSession, LearnRules, MergeRules}
use Rattle.call_words.specs.Tasks.{WriteLog, VerifyLog, RulesFrom, FromFile, FromTeacher}

-- the value of an option, where it is there
abbrev pub name_of : Named → Option (List ℕ)
name_of (Value text) = Some text.now
name_of Nothing = None

abbrev pub rules_from : Origin → RulesFrom
rules_from (File name) = FromFile name.now
rules_from (Teacher cells) = FromTeacher cells

abbrev pub task_of : Form → Task
task_of (Kind tess k walk) = TellType tess.now k walk
task_of (Check tess rules) = CheckRules tess.now rules.now
task_of (Run tess k rules) = RunSession tess.now k (rules_from rules)
task_of (Learn tess cells out) = LearnRules tess.now cells (name_of out)
task_of (Merge tess rules out) = MergeRules tess.now rules.now out.now
task_of (Log tess rules k u w) = WriteLog tess.now rules.now k u w
task_of (Verify tess k u w log) = VerifyLog tess.now k u w log.now
