use Rattle.walker_run.proofs.below.laws_below.Goals as goal

pub returns : goal.returns
returns c = record {
  one_bad_line = c.outcome_law.ensures.one_line;
  no_bad_line = c.outcome_law.ensures.no_line;
  one_spelling = c.outcome_law.ensures.one_spelling;
  not_refused = c.outcome_law.ensures.not_refused;
  one_refusal = c.outcome_law.ensures.one_refusal;
  one_automaton = c.one_automaton_law.ensures;
  not_faulty = c.first_fault_law.ensures.refuted;
  one_fault = c.first_fault_law.ensures.one;
  not_broken = c.first_broken_law.ensures.refuted;
  one_broken = c.first_broken_law.ensures.one;
  one_task = c.asked_law.ensures.one;
  one_log = c.text_laws.ensures.one_log;
  no_log = c.text_laws.ensures.no_log;
  one_log_line = c.text_laws.ensures.one_line;
  one_walk = c.log_laws.ensures.logs;
  leads_nowhere = c.log_laws.ensures.nowhere;
  one_refused = c.log_laws.ensures.one;
}
