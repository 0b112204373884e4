use Rattle.log_model.proofs.Texts.{one_log, text_of_no_log, one_bad_line}
use Rattle.log_model.proofs.laws.text_laws.Goals as goal

pub returns-clause-one_log : goal.returns-clause-one_log
returns-clause-one_log c = one_log

pub returns-clause-no_log : goal.returns-clause-no_log
returns-clause-no_log c = text_of_no_log

pub returns-clause-one_line : goal.returns-clause-one_line
returns-clause-one_line c = one_bad_line
