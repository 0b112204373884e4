-- What is joined to a dart is a dart of a live cell.
use Rattle.std.proofs.Common.{ap, ◌∙◌}
use Rattle.coincidence.specs.Tables.{joined_to}
use Rattle.look_classes.proofs.Darts.{over_some}
use Rattle.look_classes.proofs.tree.over.Goals as goal

pub returns-clause-dart : goal.returns-clause-dart
returns-clause-dart c = over_some c.args.region.now c.joins.ensures.table c.args.d c.joined.result (c.joined.ensures.value ∙ ap (λ t. joined_to t c.args.d) c.joins.ensures.value)
