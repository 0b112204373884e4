-- How many brackets are open on the walk along the contour.
use Rattle.std.proofs.Common.{Bool}
use Rattle.structure_check.specs.Rules.{TreeRules, AreSound}
use Rattle.tree_laws.proofs.Contour.{most_open_fits}
use Rattle.spot_laws.specs.Spots.{BracketsAreFew}

pub brackets_few : (r : TreeRules) → AreSound r → (b : Bool) → BracketsAreFew r b
brackets_few r sound b = λ k p short. most_open_fits r.kinds r.automaton k sound.accepted b p short
