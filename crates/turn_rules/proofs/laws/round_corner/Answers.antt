use Rattle.tree_laws.proofs.Together.{corners_close}
use Rattle.turn_rules.proofs.laws.round_corner.Goals as goal

pub returns : goal.returns
returns c = let s = c.accepted.ensures in record { closes = corners_close c.args.r.now.kinds c.args.r.now.automaton c.args.kind s.valid s.accepted c.requires.kind }
