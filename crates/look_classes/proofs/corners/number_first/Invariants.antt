-- The sides before.
use Rattle.std.proofs.Common.{map}
use Rattle.look_classes.specs.Classes.{below}
use Rattle.look_classes.specs.Codes.{HasNumberedMore, first_codes}
use Rattle.look_classes.proofs.corners.number_first.Given as goal

abbrev pub invariant-loop-side : goal.invariant-loop-side
invariant-loop-side l = HasNumberedMore l.initial.numbering l.numbering (first_codes l.places (map (λ i. (l.cell, i)) (below l.side)))
