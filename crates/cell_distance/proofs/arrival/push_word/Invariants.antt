use Rattle.std.proofs.Common.{◌≡◌, ◌++◌, drop}
use Rattle.tree_model.specs.Names.{word}
use Rattle.cell_distance.proofs.arrival.push_word.Given as goal

abbrev pub invariant-loop-side : goal.invariant-loop-side
invariant-loop-side l = l.way ++ word (drop l.side-index l.name) ≡ l.fn.way ++ word l.name
