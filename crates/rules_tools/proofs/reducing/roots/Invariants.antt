-- The roots so far, with those that are left.
use Rattle.std.proofs.Common.{◌≡◌, ◌++◌, drop, map}
use Rattle.merge_model.specs.Merging.{class_number}
use Rattle.rules_tools.proofs.reducing.roots.Given as goal

abbrev pub invariant-loop-root : goal.invariant-loop-root
invariant-loop-root l = l.numbers.items ++ map (class_number l.classes) (drop l.root-index l.roots) ≡ map (class_number l.classes) l.roots
