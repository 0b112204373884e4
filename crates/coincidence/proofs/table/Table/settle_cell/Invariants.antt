-- The sides before this one are done.
use Rattle.coincidence.specs.Pending.{AreCovered, HasSettled}
use Rattle.coincidence.proofs.table.Table.settle_cell.Given as goal

abbrev pub invariant-loop-side : goal.invariant-loop-side
invariant-loop-side l = record {
  settled : HasSettled l.fn.self l.self;
  covered : AreCovered l.fn.self.cells.items l.fn.self.slots.items l.cell 0 → AreCovered l.self.cells.items l.self.slots.items l.cell l.side;
}
