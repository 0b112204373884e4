-- To a horizon one farther.
use Rattle.std.proofs.Common.{suc, map, length, ap, ◌∙◌, subst}
use Rattle.std.proofs.lemmas.List.{length-map}
use Rattle.look_classes.specs.Looks.{cell_look}
use Rattle.look_classes.specs.Classes.{AreClasses, below, sides_below, made}
use Rattle.look_classes.specs.Numbers.{AreNumbers}
use Rattle.look_classes.specs.Codes.{cell_code, next_codes}
use Rattle.look_classes.proofs.Listed.{length_below}
use Rattle.look_classes.proofs.Sorted.{next_classes}
use Rattle.look_classes.proofs.looks.Looks.next.Goals as goal

pub next_cells-requires-clause-cells : goal.next_cells-requires-clause-cells
next_cells-requires-clause-cells c =
    let r = c.self.inside.places in
    ap length c.lists-lists.ensures.cells ∙ (c.self.invariant.classes.cells.long ∙ (length-map (below (made r)) (cell_look c.self.inside.horizon r) ∙ length_below (made r)))

pub returns : goal.returns
returns c =
    let r = c.self.inside.places in
    let h = c.self.inside.horizon in
    let firsts = c.self.inside.firsts.items in
    let before = c.self.inside.classes in
    let corners = c.in_ok-corners.corners.items in
    let cells = c.in_ok-cells.cells.items in
    let corner_numbers : AreNumbers (next_codes r firsts before.corners (sides_below (made r) r)) corners c.in_ok-corners.corner_count =
    subst (λ fs. AreNumbers (next_codes c.self.inside.places fs c.self.inside.classes.corners (sides_below (made c.self.inside.places) c.self.inside.places)) c.in_ok-corners.corners.items c.in_ok-corners.corner_count) c.deref.ensures.value (subst (λ ks. AreNumbers (next_codes c.self.inside.places c.deref.result.now ks (sides_below (made c.self.inside.places) c.self.inside.places)) c.in_ok-corners.corners.items c.in_ok-corners.corner_count) c.lists-lists.ensures.corners c.in_ok-corners.ensures) in
    let cell_numbers : AreNumbers (map (cell_code r corners before.cells) (below (made r))) cells c.in_ok-cells.cell_count =
    subst (λ ks. AreNumbers (map (cell_code c.self.inside.places ks c.self.inside.classes.cells) (below (made c.self.inside.places))) c.in_ok-cells.cells.items c.in_ok-cells.cell_count) c.deref-2.ensures.value (subst (λ ms. AreNumbers (map (cell_code c.self.inside.places c.deref-2.result.now ms) (below (made c.self.inside.places))) c.in_ok-cells.cells.items c.in_ok-cells.cell_count) c.lists-lists.ensures.cells c.in_ok-cells.ensures) in
    let all = next_classes r c.region-region.ensures.table h firsts before corners cells c.in_ok-corners.corner_count c.in_ok-cells.cell_count c.self.invariant corner_numbers cell_numbers in
    subst (λ s. AreClasses (suc s.horizon) s.region (record { cells = c.in_ok-cells.cells.items; corners = c.in_ok-corners.corners.items; cell_count = c.in_ok-cells.cell_count; corner_count = c.in_ok-corners.corner_count })) c.self.view_is all
