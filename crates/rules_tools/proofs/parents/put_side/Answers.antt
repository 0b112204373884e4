use Rattle.rules_tools.proofs.Roomy.{true_more}
use Rattle.rules_tools.proofs.parents.put_side.Goals as goal

pub returns-in-Some-clause-sound : goal.returns-in-Some-clause-sound
returns-in-Some-clause-sound c =
    true_more c.args.a.now c.args.p.now c.put.new.p c.in-Some.child (record { state = c.args.s; side = c.args.side })
    c.requires.sound c.requires.state c.in-Some.ensures.some c.put.ensures.only
