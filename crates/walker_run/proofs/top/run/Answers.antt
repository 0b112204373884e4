use Rattle.walker_run.proofs.Promised.{promise}
use Rattle.walker_run.proofs.top.run.Goals as goal

pub returns-clause-promise : goal.returns-clause-promise
returns-clause-promise g c =
    promise c.laws_below.ensures c.readings.ensures _ c.carry_through.ensures.ends c.carry_through.ensures.read_fault
    c.carry_through.ensures.write_fault c.carry_through.ensures.taken c.carry_through.ensures.left
