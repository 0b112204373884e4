-- The state is among the parents of its children at the sides before.
use Rattle.std.proofs.Common.{ℕ, ◌<◌}
use Rattle.rules_tools.specs.declared.parents.Parent.{Parent}
use Rattle.rules_tools.specs.Searches.{IsChild}
use Rattle.rules_tools.specs.Parents.{IsSpaced, HasParent, AreTrue}
use Rattle.rules_tools.proofs.parents.put_state.Given as goal

abbrev pub invariant-loop-side : goal.invariant-loop-side
invariant-loop-side l = record {
  spaced : IsSpaced l.p;
  sound : AreTrue l.a l.p;
  kept : (c : ℕ) (x : Parent) → HasParent l.fn.p c x → HasParent l.p c x;
  all : (i c : ℕ) → i < l.side → IsChild l.a l.s i c → HasParent l.p c (record { state = l.s; side = i });
}
