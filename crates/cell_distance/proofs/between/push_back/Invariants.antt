use Rattle.std.proofs.Common.{◌≡◌, ◌++◌, length}
use Rattle.tile_model.specs.Walks.{inverse}
use Rattle.cell_distance.proofs.between.push_back.Given as goal

abbrev pub invariant-loop-last : goal.invariant-loop-last
invariant-loop-last l = l.way ++ inverse l.rest ≡ l.fn.way ++ inverse l.letters

abbrev pub decreases-loop-last : goal.decreases-loop-last
decreases-loop-last l = length l.rest
