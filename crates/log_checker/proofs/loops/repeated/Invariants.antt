-- So far the walk stands there as often as it was added.
use Rattle.std.proofs.Common.{◌≡◌}
use Rattle.tile_model.specs.Walks.{times}
use Rattle.log_checker.proofs.loops.repeated.Given as goal

abbrev pub invariant-loop-turn : goal.invariant-loop-turn
invariant-loop-turn l = l.letters.items ≡ times l.turn l.walk
