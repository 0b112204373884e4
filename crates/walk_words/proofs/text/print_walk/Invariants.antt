-- What is printed, and the codes of the letters that are left, are the codes of the walk.
use Rattle.std.proofs.Common.{◌≡◌, ◌++◌, drop, map}
use Rattle.tile_model.specs.WalkTexts.{letter_code}
use Rattle.walk_words.proofs.text.print_walk.Given as goal

abbrev pub invariant-loop-x : goal.invariant-loop-x
invariant-loop-x l = l.text.items ++ map letter_code (drop l.x-index l.x-items) ≡ map letter_code l.x-items
