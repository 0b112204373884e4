-- The roots so far are the first states.
use Rattle.std.proofs.Common.{◌≡◌, length}
use Rattle.corner_congruence.specs.Congruence.{AreFirst}
use Rattle.corner_congruence.proofs.states.all_roots.Given as goal

abbrev pub invariant-loop-kind : goal.invariant-loop-kind
invariant-loop-kind l = record {
  count : length l.roots.items ≡ l.kind;
  first : AreFirst l.kind l.roots.items;
}
