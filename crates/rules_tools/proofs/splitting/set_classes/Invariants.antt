-- The states before have their classes, the others those of before.
use Rattle.std.proofs.Common.{◌≡◌, ℕ, ◌<◌, length, take, Contains}
use Rattle.rules_tools.specs.Keys.{class_of}
use Rattle.rules_tools.specs.Splitting.{HasMembers}
use Rattle.rules_tools.proofs.splitting.set_classes.Given as goal

abbrev pub invariant-loop-j : goal.invariant-loop-j
invariant-loop-j l = record {
  long : length l.x.class.items ≡ length l.fn.x.class.items;
  members : HasMembers l.fn.x → HasMembers l.x;
  these : (s : ℕ) → s < length l.fn.x.class.items → Contains (take l.j l.found) s
      → class_of l.x.class.items s ≡ class_of l.targets (class_of l.fn.x.class.items s);
  others : (s : ℕ) → (Contains (take l.j l.found) s → ⊥)
      → class_of l.x.class.items s ≡ class_of l.fn.x.class.items s;
}
