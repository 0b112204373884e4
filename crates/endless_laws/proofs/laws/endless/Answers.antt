use Rattle.endless_laws.proofs.TilesOn.{names_on, rings_inhabited, distances_reached, tiles_on, closed_without}
use Rattle.endless_laws.proofs.laws.endless.Goals as goal

pub returns-clause-names : goal.returns-clause-names
returns-clause-names c = names_on

pub returns-clause-rings : goal.returns-clause-rings
returns-clause-rings c = rings_inhabited

pub returns-clause-distances : goal.returns-clause-distances
returns-clause-distances c = distances_reached

pub returns-clause-tiles : goal.returns-clause-tiles
returns-clause-tiles c = tiles_on

pub returns-clause-closed : goal.returns-clause-closed
returns-clause-closed c = closed_without
