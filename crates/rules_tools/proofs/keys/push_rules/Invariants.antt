-- What stands, with the codes of the rules that are left.
use Rattle.std.proofs.Common.{◌≡◌, ◌++◌, drop, map}
use Rattle.merge_model.specs.Faces.{with_child}
use Rattle.rules_tools.specs.Keys.{class_of, rules_code}
use Rattle.rules_tools.proofs.keys.push_rules.Given as goal

abbrev pub invariant-loop-rule : goal.invariant-loop-rule
invariant-loop-rule l = l.key.items ++ rules_code (map (with_child (class_of l.class)) (drop l.rule-index l.rules)) ≡ l.fn.key.items ++ rules_code (map (with_child (class_of l.class)) l.rules)
