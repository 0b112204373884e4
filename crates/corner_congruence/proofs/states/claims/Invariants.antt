-- As many as sides so far.
use Rattle.std.proofs.Common.{◌≡◌, length}
use Rattle.corner_congruence.proofs.states.claims.Given as goal

abbrev pub invariant-loop-side : goal.invariant-loop-side
invariant-loop-side l = length l.all.items ≡ l.side
