use Rattle.std.proofs.Common.{length}
use Rattle.cell_names.proofs.Reading.{IsReadTo}
use Rattle.cell_names.proofs.text.read_sides.Given as goal

abbrev pub invariant-loop-separator : goal.invariant-loop-separator
invariant-loop-separator l = IsReadTo l.bytes l.name l.rest

abbrev pub decreases-loop-separator : goal.decreases-loop-separator
decreases-loop-separator l = length l.rest
