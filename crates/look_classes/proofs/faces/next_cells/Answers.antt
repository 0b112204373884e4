-- One cell after the other.
use Rattle.std.proofs.Common.{◌≡◌, map, ap, subst, arith}
use Rattle.look_classes.specs.Classes.{below, made}
use Rattle.look_classes.specs.Codes.{HasNumbered, cell_code}
use Rattle.look_classes.proofs.Handed.{face_none, face_more}
use Rattle.look_classes.proofs.faces.next_cells.Goals as goal

pub loop-cell-init : goal.loop-cell-init
loop-cell-init c = face_none (cell_code c.args.places.now c.args.corners.now c.args.cells.now) c.new-numbering.result c.new-numbering.ensures

pub loop-cell-preserved : goal.loop-cell-preserved
loop-cell-preserved c = face_more (cell_code c.args.places.now c.args.corners.now c.args.cells.now) c.loop-cell.cell c.loop-cell.numbering c.add.new.self c.loop-cell.invariant (λ met h. c.in_ok-add.ensures met (cell_code c.args.places.now c.args.corners.now c.args.cells.now c.loop-cell.cell) h c.in_ok-next_key.ensures)

pub returns : goal.returns
returns c =
    let e : c.loop-cell.cell ≡ made c.args.places.now = omega (arith, c.loop-cell-test.false, c.loop-cell.auto.cell-end, c.made-cell-end.ensures, ap (λ s. made s) c.region.ensures.value) in
    c.finish.ensures (map (cell_code c.args.places.now c.args.corners.now c.args.cells.now) (below (made c.args.places.now))) (subst (λ k. HasNumbered (map (cell_code c.args.places.now c.args.corners.now c.args.cells.now) (below k)) c.loop-cell.numbering) e c.loop-cell.invariant)
