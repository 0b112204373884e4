-- The near cells before this one have no open dart.
use Rattle.std.proofs.Common.{ℕ, ◌<◌, ◌≤◌, slice_index}
use Rattle.region_grower.specs.Ways.{IsDart, IsJoined}
use Rattle.region_grower.proofs.growth.open_dart.Given as goal

abbrev pub invariant-loop-cell : goal.invariant-loop-cell
invariant-loop-cell l = (c i : ℕ) → c < l.cell → IsDart l.joins (c, i) → slice_index l.radii c ≤ l.within → IsJoined l.joins (c, i)
