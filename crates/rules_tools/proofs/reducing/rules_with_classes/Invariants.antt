-- The rules so far, with those that are left.
use Rattle.std.proofs.Common.{◌≡◌, ◌++◌, drop, map}
use Rattle.merge_model.specs.Faces.{with_child}
use Rattle.merge_model.specs.Merging.{class_number}
use Rattle.rules_tools.proofs.reducing.rules_with_classes.Given as goal

abbrev pub invariant-loop-rule : goal.invariant-loop-rule
invariant-loop-rule l = l.copies.items ++ map (with_child (class_number l.classes)) (drop l.rule-index l.rules) ≡ map (with_child (class_number l.classes)) l.rules
