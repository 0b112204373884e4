-- Back and forth.
use Rattle.look_classes.proofs.Meaning.{back_on, further_back, place_is}
use Rattle.look_classes.proofs.laws.ways_back.Goals as goal

pub returns-clause-back : goal.returns-clause-back
returns-clause-back c = λ d e d_dart e_dart. (back_on c.args.region.now c.joins-joins.ensures.table d e e_dart, further_back c.args.region.now c.joins-joins.ensures.table d e d_dart)

pub returns-clause-places : goal.returns-clause-places
returns-clause-places c = place_is c.args.region.now c.joins-joins.ensures.table
