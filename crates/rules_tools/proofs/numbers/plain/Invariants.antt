-- The numbers so far, with those that are left.
use Rattle.std.proofs.Common.{◌≡◌, ◌++◌, drop, map}
use Rattle.merge_model.specs.Merging.{number}
use Rattle.rules_tools.proofs.numbers.plain.Given as goal

abbrev pub invariant-loop-entry : goal.invariant-loop-entry
invariant-loop-entry l = l.numbers.items ++ map number (drop l.entry-index l.entries) ≡ map number l.entries
