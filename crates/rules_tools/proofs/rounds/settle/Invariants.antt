-- The rounds so far. Each gives more classes than the one before, and no more than there are states.
use Rattle.std.proofs.Common.{◌-◌, length}
use Rattle.rules_tools.specs.Classes.{IsSettling}
use Rattle.rules_tools.proofs.rounds.settle.Given as goal

abbrev pub invariant-loop-count : goal.invariant-loop-count
invariant-loop-count l = IsSettling l.a l.fn.start.items l.before.items l.class.items l.count l.more

abbrev pub decreases-loop-count : goal.decreases-loop-count
decreases-loop-count l = length l.a.states - l.count
