-- The darts with lesser numbers.
use Rattle.std.proofs.Common.{◌≡◌, ℕ, ◌<◌, length, slice_index_or, false}
use Rattle.coincidence.specs.Darts.{unpack}
use Rattle.region_grower.specs.Ways.{IsDart}
use Rattle.look_classes.specs.Places.{is_key}
use Rattle.look_classes.proofs.contour.keys.Given as goal

abbrev pub invariant-loop-number : goal.invariant-loop-number
invariant-loop-number l = record {
  long : length l.keys.items ≡ l.number;
  tells : (n : ℕ) → n < l.number → IsDart l.tree.table (unpack n) → slice_index_or l.keys.items n false ≡ is_key l.tree (unpack n);
}
