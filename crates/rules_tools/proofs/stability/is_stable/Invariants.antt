-- The states before have the keys of the first states of their classes.
use Rattle.std.proofs.Common.{ℕ, ◌<◌}
use Rattle.rules_tools.specs.Firsts.{HasFirst, AreFirsts}
use Rattle.rules_tools.proofs.stability.is_stable.Given as goal

abbrev pub invariant-loop-s : goal.invariant-loop-s
invariant-loop-s l = record {
  firsts : AreFirsts l.a l.firsts.items;
  has : (t : ℕ) → t < l.s → HasFirst l.a l.class l.firsts.items t;
}
