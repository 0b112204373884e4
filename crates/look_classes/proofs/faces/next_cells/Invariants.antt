-- The cells before.
use Rattle.std.proofs.Common.{map}
use Rattle.look_classes.specs.Classes.{below}
use Rattle.look_classes.specs.Codes.{HasNumbered, cell_code}
use Rattle.look_classes.proofs.faces.next_cells.Given as goal

abbrev pub invariant-loop-cell : goal.invariant-loop-cell
invariant-loop-cell l = HasNumbered (map (cell_code l.places l.corners l.cells) (below l.cell)) l.numbering
