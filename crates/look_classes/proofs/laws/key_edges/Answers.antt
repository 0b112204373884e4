-- A contour that comes to a dart comes to it soon.
use Rattle.look_classes.proofs.Steps.{key_edge, edge_key}
use Rattle.look_classes.proofs.laws.key_edges.Goals as goal

pub returns : goal.returns
returns c = λ d is_dart. (key_edge c.args.region.now c.joins-joins.ensures.table d, edge_key c.args.region.now c.joins-joins.ensures.table d is_dart)
