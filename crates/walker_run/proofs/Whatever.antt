-- What is due whatever the teacher answers is due.
use Rattle.std.proofs.Common.{ℕ, List, None}
use Rattle.tile_model.specs.Tessellations.{TileKind}
use Rattle.tree_model.specs.Automata.{TreeAutomaton}
use Rattle.call_words.specs.Tasks.{Task, TellType, CheckRules, RunSession, LearnRules, MergeRules, WriteLog, VerifyLog, RulesFrom, FromFile, FromTeacher}
use Rattle.walker_run.specs.declared.line.Line.{Line}
use Rattle.walker_run.specs.Runs.{call_with}
use Rattle.walker_run.specs.Held.{Outcome, Loaded, Refused, Lesson, IsMade, made_spherical, made_rules, made_taught, RulesOf}
use Rattle.walker_run.specs.Due.{Contents, CheckRow, check_no_tess, check_no_rules, check_accepted, SessionRow, session_no_tess, session_no_kind, session_no_rules, Row, IsDue, no_form, by_task}

module _ (contents : Contents) (lesson : Lesson) where
  made_whatever : (kinds : List TileKind) (cells : ℕ) {outcome : Outcome TreeAutomaton} → IsMade None kinds cells outcome → IsMade lesson kinds cells outcome
  made_whatever kinds cells (made_spherical regular spherical) = made_spherical regular spherical
  made_whatever kinds cells (made_rules regular infinite) = made_rules regular infinite
  made_whatever kinds cells (made_taught outcome irregular taught may) = absurd (cc taught)

  rules_whatever : (kinds : List TileKind) (rules : RulesFrom) (outcome : Outcome TreeAutomaton) → RulesOf contents None kinds rules outcome → RulesOf contents lesson kinds rules outcome
  rules_whatever kinds (FromFile file) outcome is = is
  rules_whatever kinds (FromTeacher cells) outcome is = made_whatever kinds cells is

  check_whatever : (tess : List ℕ) (rules : RulesFrom) {line : Line} → CheckRow contents None tess rules line → CheckRow contents lesson tess rules line
  check_whatever tess rules (check_no_tess line is) = check_no_tess line is
  check_whatever tess rules (check_no_rules kinds line is refused) = check_no_rules kinds line is (rules_whatever kinds rules (Refused line) refused)
  check_whatever tess rules (check_accepted kinds a is loaded) = check_accepted kinds a is (rules_whatever kinds rules (Loaded a) loaded)

  session_whatever : (tess : List ℕ) (k : ℕ) (rules : RulesFrom) {line : Line} → SessionRow contents None tess k rules line → SessionRow contents lesson tess k rules line
  session_whatever tess k rules (session_no_tess line is) = session_no_tess line is
  session_whatever tess k rules (session_no_kind kinds is few) = session_no_kind kinds is few
  session_whatever tess k rules (session_no_rules kinds line is lt refused) = session_no_rules kinds line is lt (rules_whatever kinds rules (Refused line) refused)

  row_whatever : (task : Task) (line : Line) → Row contents None task line → Row contents lesson task line
  row_whatever (TellType tess k walk) line row = row
  row_whatever (CheckRules tess rules) line row = check_whatever tess (FromFile rules) row
  row_whatever (RunSession tess k rules) line row = session_whatever tess k rules row
  row_whatever (LearnRules tess cells out) line row = check_whatever tess (FromTeacher cells) row
  row_whatever (MergeRules tess rules out) line row = row
  row_whatever (WriteLog tess rules k u w) line row = row
  row_whatever (VerifyLog tess k u w log) line row = row

  pub due_whatever : (words : List (List ℕ)) {line : Line} → IsDue (call_with words contents None) line → IsDue (call_with words contents lesson) line
  due_whatever words (no_form none) = no_form none
  due_whatever words (by_task task line ask row) = by_task task line ask (row_whatever task line row)
