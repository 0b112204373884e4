-- The numbers so far, with those that are left.
use Rattle.std.proofs.Common.{◌≡◌, ◌++◌, drop, map}
use Rattle.rules_tools.specs.Keys.{class_of}
use Rattle.rules_tools.proofs.splitting.renumber.Given as goal

abbrev pub invariant-loop-s : goal.invariant-loop-s
invariant-loop-s l = l.numbers.items ++ map (λ s. class_of l.targets (class_of l.class s)) (drop l.s-index l.found) ≡ map (λ s. class_of l.targets (class_of l.class s)) l.found
