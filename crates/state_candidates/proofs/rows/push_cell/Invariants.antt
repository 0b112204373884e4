-- The corner types of the sides before this one are read.
use Rattle.tree_model.specs.Automata.{no_corner}
use Rattle.state_candidates.specs.Reading.{corner_index}
use Rattle.state_candidates.specs.Readers.{AreCornersTo, GoesOn}
use Rattle.state_candidates.proofs.rows.push_cell.Given as goal

abbrev pub invariant-loop-side : goal.invariant-loop-side
invariant-loop-side l = record {
  read : AreCornersTo l.reader l.corners.items (corner_index l.reader.region l.fn.cell l.side);
  kept : GoesOn no_corner l.fn.corners.items l.corners.items;
}
