-- One side after the other.
use Rattle.std.proofs.Common.{arith}
use Rattle.coincidence.proofs.Anew.{settled_same, settled_on, covered_next}
use Rattle.coincidence.proofs.table.Table.settle_cell.Goals as goal

pub loop-side-init : goal.loop-side-init
loop-side-init c = record { settled = settled_same c.args.self.now c.requires.shaped; covered = λ covered. covered }

pub loop-side-preserved : goal.loop-side-preserved
loop-side-preserved c =
    let h = c.loop-side.invariant in
    record {
      settled = settled_on c.args.self.now c.loop-side.self c.settle.new.self h.settled c.settle.ensures.settled;
      covered = λ covered. covered_next c.loop-side.self c.settle.new.self c.args.cell c.loop-side.side _ (omega arith) (omega arith) c.settle.ensures.covered (h.covered covered);
    }
