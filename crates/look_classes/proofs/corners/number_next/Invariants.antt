-- The sides before.
use Rattle.std.proofs.Common.{map}
use Rattle.look_classes.specs.Classes.{below}
use Rattle.look_classes.specs.Codes.{HasNumberedMore, next_codes}
use Rattle.look_classes.proofs.corners.number_next.Given as goal

abbrev pub invariant-loop-side : goal.invariant-loop-side
invariant-loop-side l = HasNumberedMore l.initial.numbering l.numbering (next_codes l.places l.firsts l.corners (map (λ i. (l.cell, i)) (below l.side)))
