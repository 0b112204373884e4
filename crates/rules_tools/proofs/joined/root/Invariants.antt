-- The state that is come to is linked to the first one, which is not before it.
use Rattle.std.proofs.Common.{◌≡◌, ◌≤◌, ℕ, List, length}
use Rattle.std.specs.Prelude.{None}
use Rattle.rules_tools.specs.declared.pairs.Pair.{Pair}
use Rattle.rules_tools.specs.Pairs.{IsPair}
use Rattle.rules_tools.specs.Joined.{Linked, link_at, AreLinks, AreFalling, set_count}
use Rattle.rules_tools.proofs.joined.root.Given as goal

abbrev pub invariant-loop-y : goal.invariant-loop-y
invariant-loop-y l = record {
  long : length l.above.items ≡ length l.fn.above.items;
  falling : AreFalling l.above.items;
  links : (q : List Pair) → AreLinks (IsPair q) l.fn.above.items → AreLinks (IsPair q) l.above.items;
  linked : (q : List Pair) → AreLinks (IsPair q) l.fn.above.items → Linked (IsPair q) l.x l.at;
  roots : (z : ℕ) → link_at l.fn.above.items z ≡ None → link_at l.above.items z ≡ None;
  count : set_count l.above.items ≡ set_count l.fn.above.items;
  least : l.at ≤ l.x;
}

abbrev pub decreases-loop-y : goal.decreases-loop-y
decreases-loop-y l = l.at
