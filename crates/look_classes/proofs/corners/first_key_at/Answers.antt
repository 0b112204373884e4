-- A cell that is not live has no look.
use Rattle.std.proofs.Common.{ap, sym, ◌∙◌, subst}
use Rattle.coincidence.specs.Cells.{IsLive}
use Rattle.look_classes.specs.Tree.{dart_of}
use Rattle.look_classes.proofs.Dead.{dead_first}
use Rattle.look_classes.proofs.corners.first_key_at.Goals as goal

pub returns : goal.returns
returns c =
    let r = c.args.places.now in
    dead_first r c.region-region.ensures.table (dart_of r c.args.cell c.args.side) (λ live. absurd (cc (c.alive.ensures.1 (subst (λ t. IsLive t.cells c.args.cell) (sym (c.joins.ensures.value ∙ ap (λ s. s.table) c.region-region.ensures.value)) live), c.if-alive.false)))
