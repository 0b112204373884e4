-- A side is below 64.
use Rattle.std.proofs.Common.{ap, arith}
use Rattle.look_classes.proofs.Darts.{dart_side}
use Rattle.look_classes.proofs.tree.left.Goals as goal

pub overflow_add-d-inside : goal.overflow_add-d-inside
overflow_add-d-inside c =
    let low = dart_side c.args.region.now c.joins-joins.ensures.table c.args.d c.requires in
    omega (arith, low, ap (λ d. d.1) c.d.view_is)
