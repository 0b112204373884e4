-- What is pending is that of the chained cells.
use Rattle.coincidence.specs.Pending.{AreCovered, HasSettled, work}
use Rattle.coincidence.proofs.table.Table.settle_all.Given as goal

abbrev pub invariant-loop-cell : goal.invariant-loop-cell
invariant-loop-cell l = record {
  settled : HasSettled l.fn.self l.self;
  covered : AreCovered l.self.cells.items l.self.slots.items 0 64;
}

abbrev pub decreases-loop-cell : goal.decreases-loop-cell
decreases-loop-cell l = work l.self.cells.items
