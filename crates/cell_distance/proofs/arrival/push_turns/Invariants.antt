use Rattle.std.proofs.Common.{◌≡◌, ◌++◌, replicate}
use Rattle.cell_distance.proofs.arrival.push_turns.Given as goal

abbrev pub invariant-loop-turn : goal.invariant-loop-turn
invariant-loop-turn l = l.way ≡ l.fn.way ++ replicate l.turn l.letter
