use Rattle.std.proofs.Common.{◌≡◌, ◌+◌, drop, length}
use Rattle.tree_model.specs.Names.{word}
use Rattle.derivation_log.proofs.place.count_letters.Given as goal

abbrev pub invariant-loop-side : goal.invariant-loop-side
invariant-loop-side l = l.count + length (word (drop l.side-index l.sides)) ≡ length (word l.sides)
