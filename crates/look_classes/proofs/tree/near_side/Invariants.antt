-- None of the sides before.
use Rattle.std.proofs.Common.{◌≡◌, None}
use Rattle.look_classes.specs.Tree.{least_below, leads_nearer, dart_of}
use Rattle.look_classes.proofs.tree.near_side.Given as goal

abbrev pub invariant-loop-side : goal.invariant-loop-side
invariant-loop-side l = least_below l.side (λ i. leads_nearer l.region (dart_of l.region l.cell i)) ≡ None
