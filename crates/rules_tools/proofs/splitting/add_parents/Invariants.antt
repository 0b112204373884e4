-- The parents before stand in the rows of their sides.
use Rattle.std.proofs.Common.{◌≡◌, ◌⊎◌, ℕ, ◌<◌, ◌≤◌, length, Contains}
use Rattle.rules_tools.specs.Keys.{class_of as number_at}
use Rattle.rules_tools.specs.Rows.{row}
use Rattle.rules_tools.specs.Parents.{entry_at}
use Rattle.rules_tools.specs.Splitting.{KeepsRows}
use Rattle.rules_tools.proofs.splitting.add_parents.Given as goal

abbrev pub invariant-loop-at : goal.invariant-loop-at
invariant-loop-at l = record {
  long : length l.found.items ≡ 64;
  kept : KeepsRows l.fn.found.items l.found.items;
  added : (j : ℕ) → number_at l.parents.starts.items l.u ≤ j → j < l.at → (entry_at l.parents j).side < 64
      → Contains (row l.found.items (entry_at l.parents j).side) (entry_at l.parents j).state;
  only : (i s : ℕ) → Contains (row l.found.items i) s
      → Contains (row l.fn.found.items i) s
      ⊎ ((j : ℕ) × (number_at l.parents.starts.items l.u ≤ j) × (j < number_at l.parents.ends.items l.u) × (entry_at l.parents j ≡ record { state = s; side = i }));
}
