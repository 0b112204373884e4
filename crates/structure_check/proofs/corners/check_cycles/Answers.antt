use Rattle.structure_check.proofs.Places.{cycles_hold, cycle_fails}
use Rattle.structure_check.proofs.corners.check_cycles.Goals as goal

pub returns-in-None-clause-ok : goal.returns-in-None-clause-ok
returns-in-None-clause-ok c = λ kinds. cycles_hold kinds c.args.a.now c.in-None.ensures.none

pub returns-in-Some-clause-err : goal.returns-in-Some-clause-err
returns-in-Some-clause-err c = λ kinds.
    let s = c.in-Some.ensures.some in
    cycle_fails kinds c.args.a.now c.in-Some.first s.0 s.1 s.2
