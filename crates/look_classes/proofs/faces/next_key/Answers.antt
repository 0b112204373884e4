-- A cell that is not live has no look.
use Rattle.std.proofs.Common.{ap, sym, ◌∙◌, subst}
use Rattle.coincidence.specs.Cells.{IsLive}
use Rattle.look_classes.proofs.Dead.{dead_cell}
use Rattle.look_classes.proofs.faces.next_key.Goals as goal

pub returns : goal.returns
returns c =
    let r = c.args.places.now in
    dead_cell r c.region.ensures.table c.args.corners.now c.args.cells.now c.args.cell (λ live. absurd (cc (c.alive.ensures.1 (subst (λ t. IsLive t.cells c.args.cell) (sym (c.joins.ensures.value ∙ ap (λ s. s.table) c.region.ensures.value)) live), c.if-alive.false))) c.requires.made
