-- The renamed rules so far, with those of what is left, are all.
use Rattle.std.proofs.Common.{◌≡◌, ◌++◌, drop, map}
use Rattle.cone_types.specs.Cones.{renamed_rule}
use Rattle.cone_types.proofs.minimisation.renamed_rules.Given as goal

abbrev pub invariant-loop-rule : goal.invariant-loop-rule
invariant-loop-rule l =
    l.renamed_all.items ++ map (renamed_rule l.classes) (drop l.rule-index l.rules) ≡ map (renamed_rule l.classes) l.rules
