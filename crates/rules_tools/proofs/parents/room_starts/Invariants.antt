-- The room so far, up to the next place.
use Rattle.std.proofs.Common.{ℕ, ◌<◌, ◌≤◌, ◌^◌, length}
use Rattle.rules_tools.specs.Keys.{class_of as number_at}
use Rattle.rules_tools.specs.Parents.{AreRising}
use Rattle.rules_tools.proofs.parents.room_starts.Given as goal

abbrev pub invariant-loop-count : goal.invariant-loop-count
invariant-loop-count l = record {
  rising : AreRising l.starts.items;
  below : (c : ℕ) → c < length l.starts.items → number_at l.starts.items c ≤ l.next;
  fits : l.next < 2 ^ 32;
}
