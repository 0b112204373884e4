-- The cells before.
use Rattle.look_classes.specs.Classes.{sides_below}
use Rattle.look_classes.specs.Codes.{HasNumbered, first_codes}
use Rattle.look_classes.proofs.corners.first_corners.Given as goal

abbrev pub invariant-loop-cell : goal.invariant-loop-cell
invariant-loop-cell l = HasNumbered (first_codes l.places (sides_below l.cell l.places)) l.numbering
