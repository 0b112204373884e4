use Rattle.walker_run.proofs.LaterRuns.{logs_verified}
use Rattle.walker_run.proofs.laws.logs.Goals as goal

pub returns : goal.returns
returns c = logs_verified c.laws_below.ensures
