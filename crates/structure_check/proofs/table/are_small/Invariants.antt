use Rattle.std.proofs.Common.{ℕ, ◌<◌, ◌≤◌, pos, slice_index_or, nat_abs}
use Rattle.structure_check.proofs.table.are_small.Given as goal

abbrev pub invariant-loop-h : goal.invariant-loop-h
invariant-loop-h l = (t : ℕ) → t < l.h-index → nat_abs (slice_index_or l.offsets t (pos 0)) ≤ 64
