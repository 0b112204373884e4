-- No radius is over a million.
use Rattle.region_grower.proofs.Growing.{radius_small}
use Rattle.region_grower.proofs.growth.answer_of.Goals as goal

pub returns-in-None : goal.returns-in-None
returns-in-None c = λ d is_dart. c.in-None.ensures.none d is_dart (radius_small c.args.joins.now c.requires.table c.args.radii.now c.requires.radii d.0 is_dart.live)
