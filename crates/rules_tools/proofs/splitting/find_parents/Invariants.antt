-- The parents of the states before, as far as these are of the class.
use Rattle.std.proofs.Common.{◌≡◌, ℕ, ◌<◌, length, take, Contains}
use Rattle.rules_tools.specs.declared.parents.Parent.{Parent}
use Rattle.rules_tools.specs.Keys.{class_of}
use Rattle.rules_tools.specs.Rows.{row}
use Rattle.rules_tools.specs.Parents.{HasParent}
use Rattle.rules_tools.proofs.splitting.find_parents.Given as goal

abbrev pub invariant-loop-u : goal.invariant-loop-u
invariant-loop-u l = record {
  long : length l.found.items ≡ 64;
  sound : (i s : ℕ) → Contains (row l.found.items i) s
      → (u : ℕ) × (class_of l.x.class.items u ≡ l.number) × HasParent l.parents u (record { state = s; side = i });
  all : (u : ℕ) (y : Parent) → Contains (take l.u-index (row l.x.members.items l.number)) u
      → class_of l.x.class.items u ≡ l.number → HasParent l.parents u y → y.side < 64
      → Contains (row l.found.items y.side) y.state;
}
