-- The opposite letters written, and those of the letters that are left, are those of the walk.
use Rattle.std.proofs.Common.{◌≡◌, ◌++◌, drop, map}
use Rattle.tile_model.specs.Walks.{opposite}
use Rattle.walk_words.proofs.walk.Walk.inverse.Given as goal

abbrev pub invariant-loop-x : goal.invariant-loop-x
invariant-loop-x l = l.letters.items ++ map opposite (drop l.x-index l.x-items) ≡ map opposite l.x-items
