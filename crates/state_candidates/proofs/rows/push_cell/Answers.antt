-- From the first side of a cell to that of the next one.
use Rattle.std.proofs.Common.{◌≡◌, ◌+◌, subst, arith}
use Rattle.look_classes.specs.Tree.{sides_of}
use Rattle.state_candidates.specs.Reading.{corner_index}
use Rattle.state_candidates.specs.Readers.{AreCornersTo}
use Rattle.state_candidates.proofs.Sides.{sides_more}
use Rattle.state_candidates.proofs.rows.push_cell.Goals as goal

pub returns-clause-read : goal.returns-clause-read
returns-clause-read c =
    let v = c.args.reader.now in
    let end : c.loop-side.side ≡ sides_of v.region c.args.cell = omega (arith, c.loop-side-test.false, c.loop-side.auto.side-end, c.sides-side-end.ensures.value) in
    let next : corner_index v.region c.args.cell c.loop-side.side ≡ corner_index v.region (c.args.cell + 1) 0 = omega (arith, sides_more v.region c.args.cell, end) in
    λ _. subst (AreCornersTo v c.loop-side.corners.items) next c.loop-side.invariant.read
