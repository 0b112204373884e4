-- The cells before.
use Rattle.std.proofs.Common.{◌≡◌, ℕ, ◌*◌, ◌<◌, ◌≤◌, length, slice_index_or}
use Rattle.look_classes.specs.Codes.{start_of}
use Rattle.look_classes.proofs.places.starts.Given as goal

abbrev pub invariant-loop-cell : goal.invariant-loop-cell
invariant-loop-cell l = record {
  long : length l.starts.items ≡ l.cell;
  start : l.start ≡ start_of l.region l.cell;
  few : l.start ≤ 64 * l.cell;
  begins : (c : ℕ) → c < l.cell → slice_index_or l.starts.items c 0 ≡ start_of l.region c;
}
