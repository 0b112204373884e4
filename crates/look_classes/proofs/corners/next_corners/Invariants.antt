-- The cells before.
use Rattle.look_classes.specs.Classes.{sides_below}
use Rattle.look_classes.specs.Codes.{HasNumbered, next_codes}
use Rattle.look_classes.proofs.corners.next_corners.Given as goal

abbrev pub invariant-loop-cell : goal.invariant-loop-cell
invariant-loop-cell l = HasNumbered (next_codes l.places l.firsts l.corners (sides_below l.cell l.places)) l.numbering
