-- The corner types of the sides of the cells before this one are read.
use Rattle.tree_model.specs.Automata.{no_corner}
use Rattle.state_candidates.specs.Reading.{corner_index}
use Rattle.state_candidates.specs.Readers.{AreCornersTo, GoesOn}
use Rattle.state_candidates.proofs.rows.push_corners.Given as goal

abbrev pub invariant-loop-cell : goal.invariant-loop-cell
invariant-loop-cell l = record {
  read : AreCornersTo l.reader l.corners.items (corner_index l.reader.region l.cell 0);
  kept : GoesOn no_corner l.fn.corners.items l.corners.items;
}
