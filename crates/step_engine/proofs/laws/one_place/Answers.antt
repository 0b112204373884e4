use Rattle.tree_laws.proofs.Together.{walks_one_place, places_tell, names_tell}
use Rattle.step_engine.proofs.laws.one_place.Goals as goal

pub returns-clause-one : goal.returns-clause-one
returns-clause-one c = let s = c.accepted.ensures in walks_one_place c.args.r.now.kinds c.args.r.now.automaton c.args.kind s.valid s.accepted c.requires.kind

pub returns-clause-related : goal.returns-clause-related
returns-clause-related c = let s = c.accepted.ensures in places_tell c.args.r.now.kinds c.args.r.now.automaton c.args.kind s.valid s.accepted c.requires.kind

pub returns-clause-tiles : goal.returns-clause-tiles
returns-clause-tiles c = let s = c.accepted.ensures in names_tell c.args.r.now.kinds c.args.r.now.automaton c.args.kind s.valid s.accepted c.requires.kind
