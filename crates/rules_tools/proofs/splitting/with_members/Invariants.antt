-- The states before are members of their classes.
use Rattle.std.proofs.Common.{ℕ, ◌<◌, Contains}
use Rattle.rules_tools.specs.Keys.{class_of}
use Rattle.rules_tools.specs.Rows.{row}
use Rattle.rules_tools.proofs.splitting.with_members.Given as goal

abbrev pub invariant-loop-s : goal.invariant-loop-s
invariant-loop-s l = (t : ℕ) → t < l.s → Contains (row l.members.items (class_of l.class.items t)) t
