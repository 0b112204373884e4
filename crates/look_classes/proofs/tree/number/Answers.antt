-- A side is below 64, and a live cell was made.
use Rattle.std.proofs.Common.{ap, arith}
use Rattle.look_classes.proofs.Darts.{dart_number}
use Rattle.look_classes.proofs.tree.number.Goals as goal

pub returns-clause-below : goal.returns-clause-below
returns-clause-below c =
    let low = dart_number c.args.region.now c.joins-joins.ensures.table c.args.d c.requires in
    omega (arith, low, ap (λ d. d.0) c.d.view_is, ap (λ d. d.1) c.d.view_is)

pub returns-clause-few : goal.returns-clause-few
returns-clause-few c =
    let low = dart_number c.args.region.now c.joins-joins.ensures.table c.args.d c.requires in
    omega (arith, low, c.joins-joins.ensures.table.few, ap (λ d. d.0) c.d.view_is, ap (λ d. d.1) c.d.view_is)
