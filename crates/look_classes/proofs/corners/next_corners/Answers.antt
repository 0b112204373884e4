-- One cell after the other.
use Rattle.std.proofs.Common.{◌≡◌, map, ap, subst, arith}
use Rattle.look_classes.specs.Tree.{dart_of}
use Rattle.look_classes.specs.Classes.{sides_below, made}
use Rattle.look_classes.specs.Codes.{HasNumbered, next_code}
use Rattle.look_classes.proofs.Handed.{cell_none, cell_more}
use Rattle.look_classes.proofs.corners.next_corners.Goals as goal

pub loop-cell-init : goal.loop-cell-init
loop-cell-init c = cell_none c.args.places.now (λ s. next_code c.args.places.now c.args.firsts.now c.args.corners.now (dart_of c.args.places.now s.0 s.1)) c.new-numbering.result c.new-numbering.ensures

pub loop-cell-preserved : goal.loop-cell-preserved
loop-cell-preserved c = cell_more c.args.places.now (λ s. next_code c.args.places.now c.args.firsts.now c.args.corners.now (dart_of c.args.places.now s.0 s.1)) c.loop-cell.cell c.loop-cell.numbering c.number_next.new.numbering c.loop-cell.invariant c.in_ok-number_next.ensures

pub returns : goal.returns
returns c =
    let e : c.loop-cell.cell ≡ made c.args.places.now = omega (arith, c.loop-cell-test.false, c.loop-cell.auto.cell-end, c.made-cell-end.ensures, ap (λ s. made s) c.region.ensures.value) in
    c.finish.ensures (map (λ s. next_code c.args.places.now c.args.firsts.now c.args.corners.now (dart_of c.args.places.now s.0 s.1)) (sides_below (made c.args.places.now) c.args.places.now)) (subst (λ k. HasNumbered (map (λ s. next_code c.args.places.now c.args.firsts.now c.args.corners.now (dart_of c.args.places.now s.0 s.1)) (sides_below k c.args.places.now)) c.loop-cell.numbering) e c.loop-cell.invariant)
