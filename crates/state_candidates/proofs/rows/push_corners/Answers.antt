-- From no side to all sides.
use Rattle.std.proofs.Common.{◌≡◌, ℕ, length, refl, ap, subst, arith}
use Rattle.std.proofs.lemmas.List.{length-map}
use Rattle.tree_model.specs.Automata.{no_corner}
use Rattle.look_classes.specs.Tree.{dart_of}
use Rattle.look_classes.specs.Looks.{corner_look}
use Rattle.look_classes.specs.Classes.{corner_looks, sides_below}
use Rattle.state_candidates.specs.Reading.{corner_index}
use Rattle.state_candidates.specs.Readers.{AreCornersTo, corner_read, tables_of}
use Rattle.state_candidates.proofs.FirstEntries.{nothing_read, read_all}
use Rattle.state_candidates.proofs.Sides.{no_sides}
use Rattle.state_candidates.proofs.rows.push_corners.Goals as goal

pub loop-cell-init : goal.loop-cell-init
loop-cell-init c =
    let v = c.args.reader.now in
    let start : 0 ≡ corner_index v.region 0 0 = omega (arith, no_sides v.region) in
    record {
      read = subst (AreCornersTo v c.args.corners.now.items) start (nothing_read v.lists.corners (corner_read v) tables_of v.first_corner no_corner c.args.corners.now.items c.requires);
      kept = record { long = omega arith; kept = λ i below. refl };
    }

pub returns-clause-read : goal.returns-clause-read
returns-clause-read c =
    let v = c.args.reader.now in
    let r = v.region in
    let classes = c.made-cell-end.ensures.reader.classes.corners in
    let made : c.loop-cell.cell ≡ length r.table.origins = omega (arith, c.loop-cell-test.false, c.loop-cell.auto.cell-end, c.made-cell-end.ensures.value) in
    let whole : length (sides_below c.loop-cell.cell r) ≡ length (sides_below (length r.table.origins) r) = ap (λ n. length (sides_below n r)) made in
    let all : corner_index r c.loop-cell.cell 0 ≡ length v.lists.corners = omega (arith, whole, classes.long, length-map (sides_below (length r.table.origins) r) (λ (s : ℕ × ℕ). corner_look v.horizon r (dart_of r s.0 s.1))) in
    λ _. read_all v.lists.corners (corner_read v) tables_of v.first_corner no_corner (corner_looks v.horizon r) v.lists.corner_count classes c.loop-cell.corners.items (corner_index r c.loop-cell.cell 0) all c.loop-cell.invariant.read
