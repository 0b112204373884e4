use Rattle.call_words.proofs.OneTask.{one_task, in_range}
use Rattle.call_words.proofs.laws.asked_law.Goals as goal

pub returns-clause-one : goal.returns-clause-one
returns-clause-one c = one_task

pub returns-clause-in_range : goal.returns-clause-in_range
returns-clause-in_range c = in_range
