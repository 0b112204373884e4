use Rattle.std.proofs.Common.{◌≡◌, ◌++◌, replicate}
use Rattle.tile_model.specs.declared.Letter.TheVariants.{L}
use Rattle.step_engine.proofs.steps.push_lefts.Given as goal

abbrev pub invariant-loop-turn : goal.invariant-loop-turn
invariant-loop-turn l = l.walk ≡ l.fn.walk ++ replicate l.turn L
