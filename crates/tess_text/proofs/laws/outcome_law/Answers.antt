use Rattle.tess_text.proofs.OneAnswer.{line_same, no_bad_line, spelling_same, not_refused, same_fault}
use Rattle.tess_text.proofs.laws.outcome_law.Goals as goal

pub returns-clause-one_line : goal.returns-clause-one_line
returns-clause-one_line c = line_same

pub returns-clause-no_line : goal.returns-clause-no_line
returns-clause-no_line c = no_bad_line

pub returns-clause-one_spelling : goal.returns-clause-one_spelling
returns-clause-one_spelling c = spelling_same

pub returns-clause-not_refused : goal.returns-clause-not_refused
returns-clause-not_refused c = not_refused c.expansion_laws.ensures.validity c.fault_laws.ensures.refuted

pub returns-clause-one_refusal : goal.returns-clause-one_refusal
returns-clause-one_refusal c = same_fault c.fault_laws.ensures.one
