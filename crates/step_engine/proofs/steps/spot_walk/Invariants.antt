use Rattle.std.proofs.Common.{◌≡◌, ◌++◌, drop}
use Rattle.tree_model.specs.Names.{word}
use Rattle.step_engine.proofs.steps.spot_walk.Given as goal

abbrev pub invariant-loop-side : goal.invariant-loop-side
invariant-loop-side l = l.walk ++ word (drop l.side-index l.side-items) ≡ word l.s.name
