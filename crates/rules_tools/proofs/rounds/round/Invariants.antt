-- The keys of the states before.
use Rattle.std.proofs.Common.{Some}
use Rattle.key_numbers.specs.Numbering.{HasNumbered}
use Rattle.rules_tools.specs.Keys.{key_of, listed}
use Rattle.rules_tools.proofs.rounds.round.Given as goal

abbrev pub invariant-loop-s : goal.invariant-loop-s
invariant-loop-s l = HasNumbered (listed (λ s. Some (key_of l.a l.before s)) l.s) l.numbering
