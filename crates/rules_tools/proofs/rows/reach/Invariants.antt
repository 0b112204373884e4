-- What rows hold stays.
use Rattle.std.proofs.Common.{◌≡◌, ◌+◌, ◌-◌, ℕ, length}
use Rattle.rules_tools.specs.Rows.{row}
use Rattle.rules_tools.proofs.rows.reach.Given as goal

abbrev pub invariant-loop-alloc : goal.invariant-loop-alloc
invariant-loop-alloc l = (m : ℕ) → row l.rows.items m ≡ row l.fn.rows.items m

abbrev pub decreases-loop-alloc : goal.decreases-loop-alloc
decreases-loop-alloc l = l.k + 1 - length l.rows.items
