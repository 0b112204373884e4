use Rattle.std.proofs.Common.{◌≡◌, ◌++◌, drop}
use Rattle.cell_distance.proofs.between.push_letters.Given as goal

abbrev pub invariant-loop-x : goal.invariant-loop-x
invariant-loop-x l = l.way ++ drop l.x-index l.letters ≡ l.fn.way ++ l.letters
