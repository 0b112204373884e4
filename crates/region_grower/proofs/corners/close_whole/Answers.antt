-- The corner of a dart of a live cell, or nothing.
use Rattle.region_grower.proofs.Passes.{passed_none, passed_as}
use Rattle.region_grower.proofs.corners.close_whole.Goals as goal

pub returns-then-is_dart : goal.returns-then-is_dart
returns-then-is_dart c = passed_as c.args.joins.now c.close.new.joins c.close.result (λ _. c.requires) c.close.ensures

pub returns : goal.returns
returns c = passed_none c.args.joins.now c.requires c.requires
