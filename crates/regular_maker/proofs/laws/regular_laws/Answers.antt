use Rattle.regular_maker.specs.Regular.{p_of, q_of}
use Rattle.regular_maker.specs.Automaton.{regular_automaton}
use Rattle.regular_maker.proofs.Accepted.{accepted}
use Rattle.regular_maker.proofs.laws.regular_laws.Goals as goal

pub returns-clause-accepted : goal.returns-clause-accepted
returns-clause-accepted c = accepted

pub returns-clause-endless : goal.returns-clause-endless
returns-clause-endless c = λ kinds valid regular infinite k n known lead.
    c.endless.ensures.closed kinds k n valid known lead (regular_automaton (p_of kinds) (q_of kinds))
    (accepted kinds valid regular infinite)
