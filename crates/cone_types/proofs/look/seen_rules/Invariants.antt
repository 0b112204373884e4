-- What is seen of the rules so far, with that of what is left, is all.
use Rattle.std.proofs.Common.{◌≡◌, ◌++◌, drop, map}
use Rattle.cone_types.specs.Looks.{seen_rule}
use Rattle.cone_types.proofs.look.seen_rules.Given as goal

abbrev pub invariant-loop-rule : goal.invariant-loop-rule
invariant-loop-rule l =
    l.all.items ++ map (seen_rule l.classes) (drop l.rule-index l.rules) ≡ map (seen_rule l.classes) l.rules
