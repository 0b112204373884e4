-- The sides before.
use Rattle.std.proofs.Common.{◌≡◌, ℕ, List, ◌++◌, Some}
use Rattle.look_classes.specs.Looks.{each_where, has_child}
use Rattle.look_classes.specs.Codes.{child_code}
use Rattle.look_classes.proofs.faces.with_children.Given as goal

abbrev pub invariant-loop-j : goal.invariant-loop-j
invariant-loop-j l = (cs : List ℕ) × (each_where l.j (has_child l.places l.cell) (child_code l.places l.cells l.cell) ≡ Some cs) × (l.key.items ≡ l.fn.key.items ++ cs)
