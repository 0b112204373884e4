-- A side that is no dart of a live cell has nothing to close.
use Rattle.region_grower.proofs.Passes.{passed_none, passed_as}
use Rattle.region_grower.proofs.corners.close_side.Goals as goal

pub returns-then-is_dart : goal.returns-then-is_dart
returns-then-is_dart c = passed_as c.args.joins.now c.close.new.joins c.close.result (λ closed _. closed) c.close.ensures

pub returns : goal.returns
returns c = passed_none c.args.joins.now c.requires (λ is_dart. let yes = c.is_dart.ensures.1 is_dart in absurd (cc (yes, c.if-is_dart.false)))
