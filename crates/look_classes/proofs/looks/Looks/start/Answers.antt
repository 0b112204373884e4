-- To horizon 0.
use Rattle.std.proofs.Common.{map, sym, ◌∙◌, subst}
use Rattle.look_classes.specs.Classes.{AreClasses, below, made}
use Rattle.look_classes.specs.Numbers.{AreNumbers}
use Rattle.look_classes.specs.Codes.{face_code}
use Rattle.look_classes.proofs.Sorted.{first_classes}
use Rattle.look_classes.proofs.looks.Looks.start.Goals as goal

pub invariant_of-result : goal.invariant_of-result
invariant_of-result c =
    let r = c.in_ok-places.places in
    let firsts = c.in_ok-firsts.firsts.items in
    let faces : AreNumbers (map (face_code r firsts) (below (made r))) c.in_ok-cells.cells.items c.in_ok-cells.cell_count = subst (λ ks. AreNumbers (map (face_code c.in_ok-places.places ks) (below (made c.in_ok-places.places))) c.in_ok-cells.cells.items c.in_ok-cells.cell_count) c.deref.ensures.value c.in_ok-cells.ensures in
    let corners = c.in_ok-from_slice.ensures.items ∙ c.deref-2.ensures.value in
    record {
      count = c.in_ok-firsts.corner_count;
      firsts = c.in_ok-firsts.ensures;
      classes = subst (λ ks. AreClasses 0 c.in_ok-places.places (record { cells = c.in_ok-cells.cells.items; corners = ks; cell_count = c.in_ok-cells.cell_count; corner_count = c.in_ok-firsts.corner_count })) (sym corners) (first_classes r c.region-region.ensures.table firsts c.in_ok-cells.cells.items c.in_ok-firsts.corner_count c.in_ok-cells.cell_count c.in_ok-firsts.ensures faces);
    }
