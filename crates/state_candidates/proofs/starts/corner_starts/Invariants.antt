-- The starts of the cells before this one stand.
use Rattle.std.proofs.Common.{◌≡◌, ℕ, ◌*◌, ◌<◌, ◌≤◌, length, slice_index}
use Rattle.look_classes.specs.Classes.{sides_below}
use Rattle.state_candidates.proofs.starts.corner_starts.Given as goal

abbrev pub invariant-loop-cell : goal.invariant-loop-cell
invariant-loop-cell l = record {
  long : length l.starts.items ≡ l.cell;
  each : (c : ℕ) → c < l.cell → slice_index l.starts.items c ≡ length (sides_below c l.region);
  start : l.before ≡ length (sides_below l.cell l.region);
  few : l.before ≤ 64 * l.cell;
}
