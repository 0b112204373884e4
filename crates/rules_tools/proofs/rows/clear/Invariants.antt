-- The rows before are empty.
use Rattle.std.proofs.Common.{◌≡◌, ℕ, ◌<◌, [], length}
use Rattle.rules_tools.specs.Rows.{row}
use Rattle.rules_tools.proofs.rows.clear.Given as goal

abbrev pub invariant-loop-k : goal.invariant-loop-k
invariant-loop-k l = record {
  long : length l.rows.items ≡ length l.fn.rows.items;
  empty : (m : ℕ) → m < l.k → row l.rows.items m ≡ [];
}
