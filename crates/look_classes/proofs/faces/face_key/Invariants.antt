-- The sides before.
use Rattle.std.proofs.Common.{◌≡◌, ℕ, List, ◌∷◌, Some}
use Rattle.coincidence.specs.Tables.{kind_of, type_at}
use Rattle.look_classes.specs.Tree.{counted}
use Rattle.look_classes.specs.Looks.{each_below}
use Rattle.look_classes.specs.Codes.{side_code, flat}
use Rattle.look_classes.proofs.faces.face_key.Given as goal

abbrev pub invariant-loop-j : goal.invariant-loop-j
invariant-loop-j l = (ss : List (ℕ × ℕ × ℕ)) × (each_below l.j (side_code l.places l.corners l.cell) ≡ Some ss) × (l.key.items ≡ kind_of l.places.table.origins l.cell ∷ (type_at l.places.table (counted l.places l.cell 0)).1 ∷ flat ss)
