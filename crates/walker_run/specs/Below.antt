-- What the crates below say of their own definitions, as far as the table rests on it: a file comes
-- to one outcome, words to one task, and a log to one walk.
use Rattle.std.specs.Prelude.{◌≡◌, ℕ, List}
use Rattle.tree_model.specs.Automata.{TreeAutomaton}
use Rattle.tess_text.specs.Laws.{OneBadLine, GrammarHasNoBadLine, OneSpelling}
use Rattle.tess_text.specs.Laws.{SpeltIsNotRefused, OneRefusal}
use Rattle.rules_file.specs.Spelling.{IsRulesFile}
use Rattle.rules_file.specs.Laws.{SpeltDoesNotFail, OneFirstFault}
use Rattle.structure_check.specs.Laws.{BrokenRefutes, OneFirstBroken}
use Rattle.call_words.specs.Laws.{OneTaskIsAsked}
use Rattle.log_model.specs.Laws.{TextsAreOfOneLog, BadTextsAreOfNoLog, OneLineIsBad}
use Rattle.log_model.specs.Laws.{LogsAreFunctions, RefusedLeadNowhere, OneIsRefused}

pub record LawsBelow : Type 0 where
  pub one_bad_line : OneBadLine
  pub no_bad_line : GrammarHasNoBadLine
  pub one_spelling : OneSpelling
  pub not_refused : SpeltIsNotRefused
  pub one_refusal : OneRefusal
  pub one_automaton :
      (bytes : List ℕ) (a b : TreeAutomaton) → IsRulesFile bytes a → IsRulesFile bytes b → a ≡ b
  pub not_faulty : SpeltDoesNotFail
  pub one_fault : OneFirstFault
  pub not_broken : BrokenRefutes
  pub one_broken : OneFirstBroken
  pub one_task : OneTaskIsAsked
  pub one_log : TextsAreOfOneLog
  pub no_log : BadTextsAreOfNoLog
  pub one_log_line : OneLineIsBad
  pub one_walk : LogsAreFunctions
  pub leads_nowhere : RefusedLeadNowhere
  pub one_refused : OneIsRefused
