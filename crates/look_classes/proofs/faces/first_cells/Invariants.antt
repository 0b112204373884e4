-- The cells before.
use Rattle.std.proofs.Common.{map}
use Rattle.look_classes.specs.Classes.{below}
use Rattle.look_classes.specs.Codes.{HasNumbered, face_code}
use Rattle.look_classes.proofs.faces.first_cells.Given as goal

abbrev pub invariant-loop-cell : goal.invariant-loop-cell
invariant-loop-cell l = HasNumbered (map (face_code l.places l.corners) (below l.cell)) l.numbering
