-- So many empty rows.
use Rattle.std.proofs.Common.{◌≡◌, ℕ, [], length}
use Rattle.rules_tools.specs.Rows.{row}
use Rattle.rules_tools.proofs.rows.empty_rows.Given as goal

abbrev pub invariant-loop-row : goal.invariant-loop-row
invariant-loop-row l = record {
  long : length l.rows.items ≡ l._row;
  empty : (m : ℕ) → row l.rows.items m ≡ [];
}
