-- None of the sides before.
use Rattle.std.proofs.Common.{◌≡◌, None}
use Rattle.look_classes.specs.Tree.{least_below, is_last, dart_of}
use Rattle.look_classes.proofs.tree.last_side.Given as goal

abbrev pub invariant-loop-side : goal.invariant-loop-side
invariant-loop-side l = least_below l.side (λ i. is_last l.region (dart_of l.region l.cell i)) ≡ None
