-- The cells of the chain, one after the other.
use Rattle.coincidence.proofs.Anew.{settled_same, settled_on, settled_taken}
use Rattle.coincidence.proofs.table.Table.settle_all.Goals as goal

pub loop-cell-init : goal.loop-cell-init
loop-cell-init c = record { settled = settled_same c.args.self.now c.requires.shaped; covered = c.requires.covered }

pub loop-cell-preserved : goal.loop-cell-preserved
loop-cell-preserved c =
    let h = c.loop-cell.invariant in
    let taken = settled_taken c.loop-cell.self c.next_chained.new.self c.in-Some.cell c.in-Some.ensures.some in
    record {
      settled = settled_on c.args.self.now c.loop-cell.self c.settle_cell.new.self h.settled (settled_on c.loop-cell.self c.next_chained.new.self c.settle_cell.new.self taken c.settle_cell.ensures.settled);
      covered = c.settle_cell.ensures.covered (c.in-Some.ensures.some.covered h.covered);
    }
