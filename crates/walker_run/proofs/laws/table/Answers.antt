use Rattle.walker_run.proofs.Unique.{one_line, one_session, never_both, never_a_log}
use Rattle.walker_run.proofs.laws.table.Goals as goal

pub returns-clause-one_line : goal.returns-clause-one_line
returns-clause-one_line c = one_line c.laws_below.ensures

pub returns-clause-one_session : goal.returns-clause-one_session
returns-clause-one_session c = one_session c.laws_below.ensures

pub returns-clause-never_both : goal.returns-clause-never_both
returns-clause-never_both c = never_both c.laws_below.ensures

pub returns-clause-never_a_log : goal.returns-clause-never_a_log
returns-clause-never_a_log c = never_a_log c.laws_below.ensures
