-- The keys of the states before.
use Rattle.key_numbers.specs.Numbering.{HasNumbered}
use Rattle.rules_tools.specs.Keys.{listed, class_key}
use Rattle.rules_tools.proofs.merging.number_classes.Given as goal

abbrev pub invariant-loop-s : goal.invariant-loop-s
invariant-loop-s l = HasNumbered (listed (class_key l.marks l.class) l.s) l.numbering
