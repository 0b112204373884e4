-- What is counted, and the crossings of the letters that are left, are those of the walk.
use Rattle.std.proofs.Common.{◌≡◌, ◌+◌, ◌≤◌, drop}
use Rattle.tile_model.specs.Walks.{crossings}
use Rattle.walk_words.proofs.walk.Walk.crossings.Given as goal

abbrev pub invariant-loop-x : goal.invariant-loop-x
invariant-loop-x l = record { counted : l.count + crossings (drop l.x-index l.x-items) ≡ crossings l.x-items; small : l.count ≤ l.x-index }
