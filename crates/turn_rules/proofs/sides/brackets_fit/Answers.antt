use Rattle.spot_laws.proofs.Counter.{brackets_few}
use Rattle.turn_rules.proofs.sides.brackets_fit.Goals as goal

pub returns : goal.returns
returns c = brackets_few c.args.r.now c.automaton-automaton.ensures.sound c.args.leftwards
